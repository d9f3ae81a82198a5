-- Drawing a plan by its own calls: if it can be saved none is refused and they lead to it; if none is refused they drew a plan that can be saved. Assumes nothing.
use Prim.Native.Nat.{ℕ, ◌+◌, ◌<◌, ◌≤◌}
use mathlib.Core.Path.{◌≡◌, refl, sym, ap, ◌∙◌}
use mathlib.Core.Bool.{Bool, true, false, not, ◌&&◌}
use mathlib.Core.List.{List, [], ◌∷◌, ◌++◌, map, append_assoc, append-nil}
use native.Mathlib.Omega.{arith}
use borrow.Author.Tests.{lt-ltb, ne_eqb}
use lib.Dec.{T, eqb, ltb→lt}
use lib.IntN.{ℤ, pos}
use lib.ListN.{length, length-append}
use Rattle.protocol.specs.Lists.{bit, one_to, neg, within, natural, all, snoc}
use Rattle.protocol.specs.Plan.{measure_limit, rule_limit, gap_limit, Rule, Plan, blank, in_range, holds}
use Rattle.protocol.specs.Calls.{Call, measure, rule, open_plan, Verdict, fine, refused, first, fresh_side, no14, no15, rule_of, checks, further, after, step, following, end, start}
use Rattle.protocol.proofs.Laws.{both, and_in, same-no, Fine, Pass, pass, passed, length-snoc, all_snoc}
use Rattle.file.specs.Bytes.{two_at}
use Rattle.file.specs.Loaded.{next_limit, rule_in, or_else, first_refusal}
use Rattle.file.specs.Promises.{whole_with, rule_from}
use Rattle.file.specs.Savable.{drawable, Savable}

-- ---- calls that are all accepted

-- none of the calls is refused, and they lead from p to q
abbrev pub Goes : List Call → Plan → Plan → Type 0
Goes cs p q = (first_refusal cs p ≡ fine) × (end cs p ≡ q)

pub fine-is : (v : Verdict) → Fine v → v ≡ fine
fine-is fine h = refl
fine-is (refused k) h = absurd h

passes : (c : Call) (p : Plan) → Pass (checks c p) → first (checks c p) ≡ fine
passes c p h = fine-is (first (checks c p)) (pass (checks c p) h)

accepted-after : (c : Call) (p : Plan) → first (checks c p) ≡ fine → (step c p).plan ≡ after c p.mode p.content
unfolding step
accepted-after c p f = rw f

goes : (c : Call) (cs : List Call) (p r q : Plan) → Pass (checks c p) → after c p.mode p.content ≡ r → Goes cs r q → Goes (c ∷ cs) p q
unfolding first_refusal
goes c cs p r q h e g =
    let f = passes c p h in
    let s = accepted-after c p f ∙ e in
    (rw f (ap (first_refusal cs) s ∙ g.0), ap (end cs) s ∙ g.1)

-- ---- measure by measure, rule by rule

-- a blank plan with measures and rules drawn
abbrev pub blank_with : List ℤ → List Rule → Plan
blank_with vs rs = record { mode = blank; content = record { rules = rs; next = 1; base = []; draft = []; sides = fresh_side vs ∷ []; kept = [] } }

pub measures_go : (cs : List Call) (q : Plan) (us vs : List ℤ) → length us + length vs ≤ measure_limit → T (all in_range vs)
    → Goes cs (blank_with (us ++ vs) []) q → Goes (map measure vs ++ cs) (blank_with us []) q
unfolding checks further after
measures_go cs q us [] h t g = rw (append-nil us) at g
measures_go cs q us (v ∷ vs) h t g =
    let b = both (in_range v) (all in_range vs) t in
    let l = length-append us (v ∷ []) in
    goes (measure v) (map measure vs ++ cs) (blank_with us []) (blank_with (snoc us v) []) q
    (tt, (rw (lt-ltb (length us) measure_limit (omega arith)) tt, (b.0, tt))) refl
    (measures_go cs q (snoc us v) vs (omega arith) b.1 (rw (append_assoc us (v ∷ []) vs) g))

-- the call that draws a rule
abbrev pub rule_call : Rule → Call
rule_call r = rule (pos r.lower) r.gap (pos r.upper) (pos (bit r.firm))

pub firm_bit_lem : (b : Bool) → (eqb (bit b) 1 ≡ b) × T (within (pos 0) (pos 1) (pos (bit b)))
unfolding within
firm_bit_lem true = (refl, tt)
firm_bit_lem false = (refl, tt)

rule_of_lem : (r : Rule) → rule_of (pos r.lower) r.gap (pos r.upper) (pos (bit r.firm)) ≡ r
rule_of_lem r = rw (firm_bit_lem r.firm).0

rule-passes : (vs : List ℤ) (rs : List Rule) (r : Rule) → length rs < rule_limit → T (drawable (length vs) r) → Pass (checks (rule_call r) (blank_with vs rs))
unfolding checks further drawable
rule-passes vs rs r h t =
    let n = length vs in
    let gap = within (neg gap_limit) (pos gap_limit) r.gap in
    let other = not (eqb r.lower r.upper) in
    let c = both (one_to n r.lower && one_to n r.upper && other) gap t in
    (tt, (rw (lt-ltb (length rs) rule_limit h) tt, (c.0, (and_in gap _ c.1 (firm_bit_lem r.firm).1, tt))))

pub rules_go : (cs : List Call) (q : Plan) (vs : List ℤ) (ss rs : List Rule) → length ss + length rs ≤ rule_limit → T (all (drawable (length vs)) rs)
    → Goes cs (blank_with vs (ss ++ rs)) q → Goes (map rule_call rs ++ cs) (blank_with vs ss) q
unfolding after
rules_go cs q vs ss [] h t g = rw (append-nil ss) at g
rules_go cs q vs ss (r ∷ rs) h t g =
    let b = both (drawable (length vs) r) (all (drawable (length vs)) rs) t in
    let l = length-append ss (r ∷ []) in
    goes (rule_call r) (map rule_call rs ++ cs) (blank_with vs ss) (blank_with vs (snoc ss r)) q
    (rule-passes vs ss r (omega arith) b.0) (rw (rule_of_lem r))
    (rules_go cs q vs (snoc ss r) rs (omega arith) b.1 (rw (append_assoc ss (r ∷ []) rs) g))

open_goes : (vs : List ℤ) (rs : List Rule) → 0 < length vs → T (holds rs vs) → Goes (open_plan ∷ []) (blank_with vs rs) (whole_with vs rs 1)
unfolding checks further after first_refusal
open_goes vs rs h t = goes open_plan [] (blank_with vs rs) (whole_with vs rs 1) (whole_with vs rs 1) (tt, (rw (ne_eqb (length vs) 0 (λ e. omega arith)) tt, (t, tt))) refl (refl, refl)

-- Every call of the drawing of a plan that can be saved is accepted, and they lead to it.
pub drawing_goes : (vs : List ℤ) (rs : List Rule) (next : ℕ) → Savable vs rs next → Goes (map measure vs ++ (map rule_call rs ++ (open_plan ∷ []))) start (whole_with vs rs 1)
drawing_goes vs rs next s =
    measures_go _ (whole_with vs rs 1) [] vs (omega (arith, s.measures)) s.ranged
    (rules_go (open_plan ∷ []) (whole_with vs rs 1) vs [] rs (omega (arith, s.rules)) s.formed
    (open_goes vs rs s.some s.hold))

-- ---- the other way round: a drawing that meets no refusal leads to what it drew

pub both_fine : (v w : Verdict) → or_else v w ≡ fine → (v ≡ fine) × (w ≡ fine)
both_fine fine w e = (refl, e)
both_fine (refused k) w e = let z : refused k ≡ fine = e in (cc, cc)

-- the calls lead from p to q, from which on no other is refused
abbrev Drew : List Call → List Call → Plan → Plan → Type 0
Drew cs rest p q = (first_refusal rest q ≡ fine) × (end cs p ≡ end rest q)

drew : (c : Call) (cs : List Call) (p r : Plan) → after c p.mode p.content ≡ r → first_refusal (c ∷ cs) p ≡ fine → Pass (checks c p) × Drew (c ∷ cs) cs p r
unfolding first_refusal
drew c cs p r a e =
    let b = both_fine (first (checks c p)) (first_refusal cs (following p c)) e in
    let s = accepted-after c p b.0 ∙ a in
    (passed (checks c p) (rw b.0 tt), (sym (ap (first_refusal cs) s) ∙ b.1, ap (end cs) s))

-- values that can be measured
abbrev Measured : List ℤ → Type 0
Measured vs = (length vs ≤ measure_limit) × T (all in_range vs)

measures_drew : (v : ℕ → ℤ) (cs : List Call) (us : List ℤ) (ks : List ℕ) → Measured us → first_refusal (map (λ k. measure (v k)) ks ++ cs) (blank_with us []) ≡ fine
    → Measured (us ++ map v ks) × Drew (map (λ k. measure (v k)) ks ++ cs) cs (blank_with us []) (blank_with (us ++ map v ks) [])
unfolding checks further after
measures_drew v cs us [] m e = rw (append-nil us) (m, (e, refl))
measures_drew v cs us (k ∷ ks) m e =
    let d = drew (measure (v k)) (map (λ k. measure (v k)) ks ++ cs) (blank_with us []) (blank_with (snoc us (v k)) []) refl e in
    let l = length-snoc us (v k) in
    let h = ltb→lt (length us) measure_limit d.0.1.0 in
    let n : Measured (snoc us (v k)) = (omega arith, all_snoc in_range us (v k) m.1 d.0.1.1.0) in
    let ih = rw (append_assoc us (v k ∷ []) (map v ks)) at (measures_drew v cs (snoc us (v k)) ks n d.1.0) in
    (ih.0, (ih.1.0, d.1.1 ∙ ih.1.1))

pub rule-drawable : (n : ℕ) (a c b f : ℤ) (vs : List ℤ) → length vs ≡ n → T (no14 vs a b).passes → T (no15 c f).passes → T (drawable n (rule_of a c b f))
unfolding drawable
rule-drawable n a c b f vs l t u =
    let gap = within (neg gap_limit) (pos gap_limit) c in
    and_in (one_to n (natural a) && one_to n (natural b) && not (eqb (natural a) (natural b))) gap (rw l at t) (both gap _ u).0

-- rules that can be drawn over n measures
abbrev Ruled : ℕ → List Rule → Type 0
Ruled n rs = (length rs ≤ rule_limit) × T (all (drawable n) rs)

rules_drew : (s : ℕ → List ℕ) (cs : List Call) (vs : List ℤ) (ss : List Rule) (ks : List ℕ) → Ruled (length vs) ss → first_refusal (map (λ k. rule_in (s k)) ks ++ cs) (blank_with vs ss) ≡ fine
    → Ruled (length vs) (ss ++ map (λ k. rule_from (s k)) ks) × Drew (map (λ k. rule_in (s k)) ks ++ cs) cs (blank_with vs ss) (blank_with vs (ss ++ map (λ k. rule_from (s k)) ks))
unfolding checks further after
rules_drew s cs vs ss [] m e = rw (append-nil ss) (m, (e, refl))
rules_drew s cs vs ss (k ∷ ks) m e =
    let r = rule_from (s k) in
    let d = drew (rule_in (s k)) (map (λ k. rule_in (s k)) ks ++ cs) (blank_with vs ss) (blank_with vs (snoc ss r)) refl e in
    let l = length-snoc ss r in
    let h = ltb→lt (length ss) rule_limit d.0.1.0 in
    let t = rule-drawable (length vs) (pos (two_at (s k) 4)) _ (pos (two_at (s k) 6)) _ vs refl d.0.1.1.0 d.0.1.1.1.0 in
    let n : Ruled (length vs) (snoc ss r) = (omega arith, all_snoc (drawable (length vs)) ss r m.1 t) in
    let ih = rw (append_assoc ss (r ∷ []) (map (λ k. rule_from (s k)) ks)) at (rules_drew s cs vs (snoc ss r) ks n d.1.0) in
    (ih.0, (ih.1.0, d.1.1 ∙ ih.1.1))

open_drew : (vs : List ℤ) (rs : List Rule) → first_refusal (open_plan ∷ []) (blank_with vs rs) ≡ fine
    → Pass (checks open_plan (blank_with vs rs)) × (end (open_plan ∷ []) (blank_with vs rs) ≡ whole_with vs rs 1)
unfolding after
open_drew vs rs e = let d = drew open_plan [] (blank_with vs rs) (whole_with vs rs 1) refl e in (d.0, d.1.1)

-- A drawing of which no call is refused leads to the plan that it draws, which can be saved.
pub drawing_drew : (v : ℕ → ℤ) (s : ℕ → List ℕ) (is js : List ℕ) (next : ℕ) → T (one_to next_limit next)
    → let cs = map (λ k. measure (v k)) is ++ (map (λ k. rule_in (s k)) js ++ (open_plan ∷ [])) in first_refusal cs start ≡ fine
    → (end cs start ≡ whole_with (map v is) (map (λ k. rule_from (s k)) js) 1) × Savable (map v is) (map (λ k. rule_from (s k)) js) next
unfolding checks further
drawing_drew v s is js next t e =
    let m = measures_drew v (map (λ k. rule_in (s k)) js ++ (open_plan ∷ [])) [] is (omega arith, tt) e in
    let r = rules_drew s (open_plan ∷ []) (map v is) [] js (omega arith, tt) m.1.0 in
    let o = open_drew (map v is) (map (λ k. rule_from (s k)) js) r.1.0 in
    let z = same-no (length (map v is)) 0 o.0.1.0 in (
      m.1.1 ∙ r.1.1 ∙ o.1,
      record { some = omega arith; measures = m.0.0; rules = r.0.0; ranged = m.0.1; formed = r.0.1; hold = o.0.1.1.0; number = t },
    )
