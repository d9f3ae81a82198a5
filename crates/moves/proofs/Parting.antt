-- Laws of split and join: the checks, and the plan after each. Assumes nothing.
use Prim.Native.Nat.{◌-◌, ℕ, suc, ◌+◌, ◌<◌, ◌≤◌, min}
use native.Mathlib.Omega.{arith}
use mathlib.Core.Bool.{Bool, true, false, not, cond, ◌||◌}
use mathlib.Core.Path.{◌≡◌, refl, sym, ap, ap₂, ◌∙◌}
use mathlib.Core.List.{List, [], ◌∷◌, ◌++◌, map}
use lib.Dec.{T, T_not, eqb→eq, ltb→lt}
use lib.IntN.{ℤ, pos}
use lib.ListN.{length, set, replicate, take, drop}
use Rattle.std.specs.List.{copy_within}
use Rattle.std.proofs.lemmas.List.{get_or-take, length-drop, length-take, take-take}
use Rattle.std.proofs.lemmas.Slice.{put_mid-paste}
use Rattle.protocol.specs.Lists.{one_to, natural, snoc}
use Rattle.protocol.specs.Plan.{Plan, mode_number, whole, split, is, Side, side_at}
use Rattle.protocol.specs.Calls.{Check, fine, first, checks, further, after, gives, ok, join, split-side, reset, fresh_side, first_values, with_base, on_kept, on_sides}
use Rattle.protocol.proofs.Laws.{range, which}
use Rattle.rows.specs.Rows.{span, row, copied_in}
use Rattle.rows.proofs.Spans.{span_same, span-snoc, map-span, get_or-blank}
use Rattle.heads.specs.declared.Head.{Head}
use Rattle.state.specs.Spread.{Spread}
use Rattle.heads.specs.Heads.{mode_of, sides_in, index_of, offset_of, measures_in, end_in, kept_in}
use Rattle.records.specs.Records.{log_of}
use Rattle.state.specs.Spread.{plan_of, side_of, rules_of}
use Rattle.state.specs.Spread.{refused_as}
use Rattle.state.specs.Meets.{done, number}
use Rattle.state.specs.Spread.{MeetsSpread}
use Rattle.state.proofs.View.{plan-same, sides-length, side_at_lem, first-row}
use Rattle.state.proofs.Meets.{refused_meets, accepted_meets}
use Rattle.protocol.specs.declared.refusal.Refusal.TheVariants.{WrongMode}
use Rattle.moves.specs.Moves.{split_checks, split_head, join_head, split_base}
use Rattle.moves.proofs.Makes.{Checked}
use Rattle.state.proofs.Steps.{accepts, stored, flag_set, flag_other}
use Rattle.rows.proofs.Copies.{copied_part, row_copied, row_beside}

-- ---- join

pub join_refuses : (p : Spread) → is split (mode_of p.head.mode) ≡ false → MeetsSpread join p (refused_as p WrongMode)
unfolding checks further
join_refuses p h = refused_meets join p WrongMode (rw h)

abbrev pub join_to : Spread → Spread
join_to p = stored p (join_head p.head) p.base p.base p.values (replicate 8 false) (replicate 8 false) p.edits

reset-sides : (p : Spread) (n : ℕ) → span 1 n (side_of (join_to p)) ≡ map reset (span 1 n (side_of p))
reset-sides p n =
    span_same 1 n _ (λ k. reset (side_of p k)) (λ k a b i. record { values = (side_of p k).values; arrived = get_or-blank 8 (index_of k) false i; confirmed = get_or-blank 8 (index_of k) false i })
    ∙ sym (map-span reset 1 n (side_of p))

pub join-accepts : (p : Spread) → mode_of p.head.mode ≡ split → MeetsSpread join p (record { state = join_to p; answer = done })
unfolding checks further after gives
join-accepts p e = accepted_meets join p _ (rw e) refl (rw e (plan-same refl refl refl refl refl (reset-sides p (suc (min p.head.added 7))) refl)) tt

-- ---- split

pub split_checked : (p : Spread) (s : ℤ) {side : ℕ} → side ≡ natural s → Checked (split-side s) p (split_checks p.head (natural s)) (split_checks p.head side)
unfolding checks further
split_checked p s w = record { same = rw (sides-length p); finds = ap (λ x. first (split_checks p.head x)) w }

abbrev pub split_to : Spread → ℕ → ℕ → ℕ → Spread
split_to p from to i =
    stored p (split_head p.head) (split_base p.head p.base p.values) p.draft (copy_within p.values from (from + 32) to) (set p.arrived i false) (set p.confirmed i false)
    p.edits

-- a row copied within the values, as from one array to another
copied_within : (values : List ℤ) (from to : ℕ) → from + 32 ≤ length values → to + 32 ≤ length values → copy_within values from (from + 32) to ≡ copied_in values values from to 32
copied_within values from to h k =
    let part = take 32 (drop from values) in
    let l = length-drop from values in
    let m = length-take 32 (drop from values) in
    let w : from + 32 - from ≡ 32 = omega arith in
    let z : min 32 (min (length values - to) (length values - from)) ≡ 32 = omega arith in
    rw (w, z) (ap (λ a. take to values ++ a ++ drop (to + 32) values) (sym (take-take 32 32 (drop from values) (omega arith)))
    ∙ sym (put_mid-paste to 32 values part part 32 refl refl (omega arith))
    ∙ copied_part values values part from to 32 32 32 refl refl k h refl)

row_front : (vs : List ℤ) (k n : ℕ) → n ≤ k → row (take k vs) 0 n ≡ row vs 0 n
row_front vs k n h = span_same 0 n _ _ (λ i a b. get_or-take k vs i (pos 0) (omega (arith, h, b)))

split-sides : (p : Spread) (s : ℕ) → T (one_to (sides_in p.head) s) → sides_in p.head < 8 → length p.values ≡ 256 → length p.arrived ≡ 8 → length p.confirmed ≡ 8
    → let n = suc (sides_in p.head) in
    span 1 (sides_in (split_head p.head)) (side_of (split_to p (offset_of s) (offset_of n) (index_of n))) ≡ snoc (span 1 (sides_in p.head) (side_of p)) (fresh_side (side_at (plan_of p).content s).values)
split-sides p s t h v a c =
    let k = sides_in p.head in
    let q = split_to p (offset_of s) (offset_of (suc k)) (index_of (suc k)) in
    let r = range k s t in
    let x : suc (min k 7) ≡ suc k = omega arith in
    let y : 1 + k ≡ suc k = omega arith in
    let moved : (n at : ℕ) → row (copy_within p.values (offset_of s) (offset_of s + 32) (offset_of (suc k))) at n ≡ row (copied_in p.values p.values (offset_of s) (offset_of (suc k)) 32) at n =
    λ n at. ap (λ vs. row vs at n) (copied_within p.values (offset_of s) (offset_of (suc k)) (omega (arith, r.1)) (omega arith)) in
    ap (λ n. span 1 n (side_of q)) x ∙ span-snoc 1 k (side_of q)
    ∙ ap₂ (λ us u. snoc us u)
    (span_same 1 k (side_of q) (side_of p) (λ j b d i. record {
      values = (moved (measures_in p.head) (offset_of j) ∙ row_beside p.values p.values (offset_of s) (offset_of (suc k)) (offset_of j) (measures_in p.head) (omega arith) (omega arith)) i;
      arrived = flag_other p.arrived false (suc k) j (omega arith) (omega arith) (omega arith) (omega arith) (λ z. omega arith) i;
      confirmed = flag_other p.confirmed false (suc k) j (omega arith) (omega arith) (omega arith) (omega arith) (λ z. omega arith) i;
    }))
    (ap (side_of q) y ∙ (λ i. record {
      values = (moved (measures_in p.head) (offset_of (suc k)) ∙ row_copied p.values p.values (offset_of s) (offset_of (suc k)) (measures_in p.head) (omega arith) (omega arith) (omega (arith, r.1))
          ∙ sym (ap (λ z. z.values) (side_at_lem p s r.0 r.1))) i;
      arrived = flag_set p.arrived false (suc k) a i;
      confirmed = flag_set p.confirmed false (suc k) c i;
    }))

-- the first split of a whole plan, b, or another
split-plan : (p : Spread) (b : Bool) (x : Side) (xs : List Side) → xs ≡ snoc (plan_of p).content.sides x → (T (not b) → end_in p.head ≡ p.head.next)
    → ◌≡◌ {A = Plan}
    (record {
      mode = split;
      content = record {
        rules = rules_of p;
        next = p.head.next;
        base = row (cond b (take 32 p.values) p.base) 0 (min (cond b p.head.measures p.head.based) 32);
        draft = (plan_of p).content.draft;
        sides = xs;
        kept = log_of p.head.next (min (cond b 0 p.head.kept) 256) p.edits;
      };
    })
    (record { mode = split; content = on_sides (λ us. snoc us x) (cond b (with_base (first_values (plan_of p).content) (on_kept (λ ks. []) (plan_of p).content)) (plan_of p).content) })
split-plan p true x xs e h =
    plan-same refl refl refl (row_front p.values 32 (measures_in p.head) (omega arith) ∙ sym (first-row p)) refl e refl
split-plan p false x xs e h = plan-same refl refl refl refl refl e (ap (λ n. log_of n (kept_in p.head) p.edits) (sym (h tt)))

-- the numbers of a plan that is split but not whole end below the next
split-end : (h : Head) → T (is whole (mode_of h.mode) || is split (mode_of h.mode)) → T (not (is whole (mode_of h.mode))) → end_in h ≡ h.next
split-end h t f = which (is whole (mode_of h.mode)) (is split (mode_of h.mode)) t (λ y. absurd (T_not (is whole (mode_of h.mode)) f y)) (λ y. rw (eqb→eq (mode_number (mode_of h.mode)) 2 y))

pub split-accepts : (p : Spread) (s : ℤ) {side n from to i : ℕ} {found : List Check} → side ≡ natural s → Checked (split-side s) p (split_checks p.head (natural s)) found
    → n ≡ suc (sides_in p.head) → from ≡ offset_of side → to ≡ offset_of n → i ≡ index_of n
    → length p.values ≡ 256 → length p.arrived ≡ 8 → length p.confirmed ≡ 8 → fine ≡ first found → MeetsSpread (split-side s) p
    (record { state = split_to p from to i; answer = number n })
unfolding after gives
split-accepts p s w k a b c d v f g e =
    rw (b, c, d, a, w) (accepts (split_checks p.head (natural s)) _ k.same (sym (e ∙ k.finds))
    (λ t. ap (λ x. ok (pos (suc x) ∷ [])) (sym (sides-length p)))
    (λ t. split-plan p (is whole (mode_of p.head.mode)) _ _ (split-sides p (natural s) t.1.0 (ltb→lt (sides_in p.head) 8 t.1.1.0) v f g) (split-end p.head t.0))
    tt)
