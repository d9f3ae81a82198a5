-- A blank plan has what was drawn and nothing else, and so has its history; one with nothing drawn is the blank plan that a list begins with. Assumes nothing.
use Prim.Native.Nat.{ℕ, suc}
use mathlib.Core.Path.{◌≡◌, refl, ap, ◌∙◌}
use mathlib.Core.Bool.{◌&&◌}
use mathlib.Core.List.{List, [], ◌∷◌}
use native.Mathlib.Omega.{arith}
use lib.Dec.{T, eqb→eq}
use lib.IntN.{ℤ}
use lib.ListN.{length}
use Rattle.protocol.specs.Lists.{is_none, snoc}
use Rattle.protocol.specs.Plan.{Rule, Mode, blank, is, Content, Plan}
use Rattle.protocol.specs.Calls.{Call, measure, rule, open_plan, split-side, edit, join, send, replay, stop, confirm, install, show, fate_of_edit, left, first_values, checks, further, rule_of, after, gives, following, start}
use Rattle.protocol.specs.History.{History, empty, entered, recorded}
use Rattle.protocol.proofs.Laws.{both, Pass}
use Rattle.guarantee.specs.Runs.{noting}
use Rattle.guarantee.proofs.Holding.{only, plan, stepped}
use Rattle.file.specs.Loaded.{untouched}
use Rattle.file.proofs.Drawn.{blank_with}

-- the history of a plan that has measures and rules and no edit, in a mode and with that many sides
abbrev pub drawn_history : Mode → ℕ → List ℤ → List Rule → History
drawn_history m n vs rs = record { mode = m; values = vs; rules = rs; sides = n; kept = []; settlings = []; moves = [] }

abbrev pub Drawn : Plan → History → Type 0
Drawn p h = (vs : List ℤ) × (rs : List Rule) × (p ≡ blank_with vs rs) × (h ≡ drawn_history blank 0 vs rs)

abbrev pub Fresh : Plan → History → Type 0
Fresh p h = T (is blank p.mode) → Drawn p h

fresh_after : (c : Call) (m : Mode) (d : Content) (h : History) → Fresh (plan m d) h → Pass (checks c (plan m d)) → Fresh (after c m d) (entered c (gives c m d) h)
unfolding after entered checks further
fresh_after (measure v) m d h t k w =
    let b = t k.0 in
    (snoc b.0 v, b.1, ap (λ p. after (measure v) p.mode p.content) b.2, ap (entered (measure v) []) b.3)
fresh_after (rule a c l f) m d h t k w =
    let b = t k.0 in
    (b.0, snoc b.1 (rule_of a c l f), ap (λ p. after (rule a c l f) p.mode p.content) b.2, ap (entered (rule a c l f) []) b.3)
fresh_after open_plan m d h t k w = absurd w
fresh_after (split-side s) m d h t k w = absurd w
fresh_after (edit s client n x kind y) m d h t k w = absurd (rw (only blank m w) at k.0)
fresh_after join m d h t k w = absurd w
fresh_after (send s) m d h t k w = absurd (rw (only blank m w) at k.0)
fresh_after (replay n) m d h t k w = absurd (rw (only blank m w) at k.0)
fresh_after stop m d h t k w = absurd w
fresh_after (confirm s) m d h t k w = absurd (rw (only blank m w) at k.0)
fresh_after install m d h t k w = absurd w
fresh_after (show s room) m d h t k w = t w
fresh_after (fate_of_edit n) m d h t k w = t w
fresh_after left m d h t k w = t w

pub fresh_step : (c : Call) (p : Plan) (h : History) → Fresh p h → Fresh (following p c) (noting p h c)
fresh_step c p h t = stepped (λ r. Fresh r.plan (recorded c r.answer h)) c p (fresh_after c p.mode p.content h t) (λ n. t)

nothing : {A : Type 0} (xs : List A) → T (is_none (length xs)) → xs ≡ []
nothing [] t = refl
nothing (x ∷ xs) t = let e = eqb→eq (suc (length xs)) 0 t in absurd (omega arith)

-- An untouched plan that a list leads to is the blank plan, and the history is empty.
pub untouched-start : (p : Plan) (h : History) → Fresh p h → T (untouched p) → (p ≡ start) × (h ≡ empty)
untouched-start p h t u =
    let a = both (is blank p.mode && is_none (length (first_values p.content))) (is_none (length p.content.rules)) u in
    let b = both (is blank p.mode) (is_none (length (first_values p.content))) a.0 in
    let d = t b.0 in
    let v : d.0 ≡ [] = nothing d.0 (rw d.2 at b.1) in
    let r : d.1 ≡ [] = nothing d.1 (rw d.2 at a.1) in
    (d.2 ∙ rw (v, r), d.3 ∙ rw (v, r))
