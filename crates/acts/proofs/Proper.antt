-- The measures, rules and numbers of a plan keep their limits; every call keeps it so. Assumes nothing.
use Prim.Native.Nat.{ℕ, suc, ◌<◌, ◌≤◌}
use mathlib.Core.Path.{◌≡◌, refl, ◌∙◌}
use mathlib.Core.Bool.{Bool, true, not, ◌&&◌, ◌||◌}
use mathlib.Core.List.{List, [], ◌∷◌}
use native.Mathlib.Omega.{arith}
use lib.Dec.{T, eqb, eqb→eq, ltb→lt, nltb→le}
use lib.IntN.{ℤ, pos}
use lib.ListN.{length}
use Rattle.protocol.specs.Lists.{one_to, neg, within, natural, all, snoc, modify}
use Rattle.protocol.specs.Plan.{measure_limit, rule_limit, gap_limit, number_limit, Rule, Change, Mode, blank, whole, split, joining, closing, is, active, Content, in_range, value, applied, made, fits, absent_side, side_at, lookup}
use Rattle.protocol.specs.Calls.{Call, measure, rule, open_plan, split-side, edit, join, send, replay, stop, confirm, install, show, fate_of_edit, left, first_values, checks, further, change_of, rule_of, fresh_side, reset, on_values, has_arrived, has_confirmed, replayable, after}
use Rattle.protocol.proofs.Laws.{cases, is_yes, both, and_in, which, or_right, or_left, range, in_range_lem, same_yes, same-no, Pass, length-snoc, length-modify, all-nth, all_snoc, all_map, all-modify, all-kept, all_one, nth-same}
use Rattle.protocol.proofs.Replays.{accepted-fits}
use Rattle.guarantee.specs.Holding.{Holding}
use Rattle.guarantee.proofs.Holding.{only, plan}
use Rattle.file.specs.Loaded.{next_limit}
use Rattle.file.specs.Savable.{drawable}
use Rattle.file.proofs.Drawn.{rule-drawable}

-- ---- n values, all in range

abbrev pub fit : ℕ → List ℤ → Bool
fit n vs = eqb (length vs) n && all in_range vs

-- ---- the invariant

-- n measures: every side, the base and the draft have n values in range, and the rules, the limits and the next number are as drawing and editing leave them
pub record Proper (n : ℕ) (m : Mode) (d : Content) : Type 0 where
  pub measures : n ≤ measure_limit
  pub some : T (not (is blank m)) → 0 < n
  pub rules : length d.rules ≤ rule_limit
  pub formed : T (all (drawable n) d.rules)
  pub number : T (one_to next_limit d.next)
  pub sides : T (all (λ x. fit n x.values) d.sides)
  pub base : T (is split m || active m) → T (fit n d.base)
  pub draft : T (active m) → T (fit n d.draft)

fit_made : (n m : ℕ) (ch : Change) (vs : List ℤ) → T (fit n vs) → T (fits m ch vs) → T (fit n (made m ch vs))
unfolding made fits value
fit_made n m ch vs t u =
    let b = both (eqb (length vs) n) (all in_range vs) t in
    let l = length-modify m (applied ch) vs ∙ eqb→eq (length vs) n b.0 in
    and_in (eqb (length (made m ch vs)) n) _ (same_yes (length (made m ch vs)) n l) (all-modify in_range (pos 0) m (applied ch) vs b.1 u)

fit_snoc : (n : ℕ) (vs : List ℤ) (v : ℤ) → T (fit n vs) → T (in_range v) → T (fit (suc n) (snoc vs v))
fit_snoc n vs v t u =
    let b = both (eqb (length vs) n) (all in_range vs) t in
    let e = eqb→eq (length vs) n b.0 in
    let l = length-snoc vs v in
    and_in (eqb (length (snoc vs v)) (suc n)) _ (same_yes (length (snoc vs v)) (suc n) (omega arith)) (all_snoc in_range vs v b.1 u)

one_to_more : (n k : ℕ) → T (one_to n k) → T (one_to (suc n) k)
one_to_more n k t = let r = range n k t in in_range_lem (suc n) k r.0 (omega arith)

drawable_more : (n : ℕ) (r : Rule) → T (drawable n r) → T (drawable (suc n) r)
unfolding drawable
drawable_more n r t =
    let gap = within (neg gap_limit) (pos gap_limit) r.gap in
    let other = not (eqb r.lower r.upper) in
    let c = both (one_to n r.lower && one_to n r.upper && other) gap t in
    let b = both (one_to n r.lower && one_to n r.upper) other c.0 in
    let a = both (one_to n r.lower) (one_to n r.upper) b.0 in
    and_in (one_to (suc n) r.lower && one_to (suc n) r.upper && other) gap
    (and_in (one_to (suc n) r.lower && one_to (suc n) r.upper) other
    (and_in (one_to (suc n) r.lower) (one_to (suc n) r.upper) (one_to_more n r.lower a.0) (one_to_more n r.upper a.1)) b.1) c.1

all_more : (n : ℕ) (rs : List Rule) → T (all (drawable n) rs) → T (all (drawable (suc n)) rs)
all_more n [] t = tt
all_more n (r ∷ rs) t = let b = both (drawable n r) (all (drawable n) rs) t in and_in (drawable (suc n) r) _ (drawable_more n r b.0) (all_more n rs b.1)

-- the values of a side
pub side_fit : (n : ℕ) (d : Content) (s : ℕ) → T (all (λ x. fit n x.values) d.sides) → 0 < s → s ≤ length d.sides → T (fit n (side_at d s).values)
side_fit n d s t p q = all-nth (λ x. fit n x.values) absent_side d.sides s t p q

pub first-length : (n : ℕ) (d : Content) → length d.sides ≡ 1 → T (all (λ x. fit n x.values) d.sides) → length (first_values d) ≡ n
first-length n d one t = eqb→eq (length (first_values d)) n (both (eqb (length (first_values d)) n) (all in_range (first_values d)) (side_fit n d 1 t (omega arith) (omega arith))).0

replayable_fit : (n : ℕ) (d : Content) (k : ℕ) → T (fit n d.draft) → T (replayable d k) → T (fit n (made (lookup k d.kept).edit.measure (lookup k d.kept).edit.change d.draft))
replayable_fit n d k t u =
    let e = (lookup k d.kept).edit in
    fit_made n e.measure e.change d.draft t (accepted-fits d k u)

-- ---- by call

abbrev pub SomeProper : Mode → Content → Type 0
SomeProper m d = (n : ℕ) × Proper n m d

pub proper_after : (c : Call) (m : Mode) (d : Content) → Holding m d → SomeProper m d → Pass (checks c (plan m d)) → SomeProper (after c m d).mode (after c m d).content
unfolding after checks further
proper_after (measure v) m d g (n, p) k =
    let e = only blank m k.0 in
    let one = g.alone (or_left (is blank m) (is whole m) k.0) in
    let l = first-length n d one p.sides in
    let s = side_fit n d 1 p.sides (omega arith) (omega arith) in
    let more = on_values (λ vs. snoc vs v) in
    let h = ltb→lt (length (first_values d)) measure_limit k.1.0 in (
      suc n,
      rw e (record {
        measures = omega arith;
        some = λ w. absurd w;
        rules = p.rules;
        formed = all_more n d.rules p.formed;
        number = p.number;
        sides = all_one (λ x. fit (suc n) x.values) absent_side (modify 1 more d.sides) (length-modify 1 more d.sides ∙ one)
            (rw (nth-same absent_side more 1 d.sides (omega arith) (omega arith)) (fit_snoc n (first_values d) v s k.1.1.0));
        base = λ w. absurd w;
        draft = λ w. absurd w;
      }),
    )
proper_after (rule a c b f) m d g (n, p) k =
    let e = only blank m k.0 in
    let one = g.alone (or_left (is blank m) (is whole m) k.0) in
    let l = first-length n d one p.sides in
    let h = ltb→lt (length d.rules) rule_limit k.1.0 in (
      n,
      record {
        measures = p.measures;
        some = p.some;
        rules = let x = length-snoc d.rules (rule_of a c b f) in omega arith;
        formed = all_snoc (drawable n) d.rules (rule_of a c b f) p.formed (rule-drawable n a c b f (first_values d) l k.1.1.0 k.1.1.1.0);
        number = p.number;
        sides = p.sides;
        base = p.base;
        draft = p.draft;
      },
    )
proper_after open_plan m d g (n, p) k =
    let one = g.alone (or_left (is blank m) (is whole m) k.0) in
    let l = first-length n d one p.sides in (
      n,
      record {
        measures = p.measures;
        some = λ w. let z = same-no (length (first_values d)) 0 k.1.0 in omega arith;
        rules = p.rules;
        formed = p.formed;
        number = tt;
        sides = p.sides;
        base = λ w. absurd w;
        draft = λ w. absurd w;
      },
    )
proper_after (split-side s) m d g (n, p) k =
    let i = range (length d.sides) (natural s) k.1.0 in
    let new = all_snoc (λ x. fit n x.values) d.sides (fresh_side (side_at d (natural s)).values) p.sides (side_fit n d (natural s) p.sides i.0 i.1) in
    which (is whole m) (is split m) k.0
    (λ w.
    let e = only whole m w in
    let one = g.alone (or_right (is blank m) (is whole m) w) in
    let p' : Proper n whole d = rw e at p in
    rw e (
      n,
      record {
        measures = p'.measures;
        some = p'.some;
        rules = p'.rules;
        formed = p'.formed;
        number = p'.number;
        sides = new;
        base = λ w. side_fit n d 1 p'.sides (omega arith) (omega arith);
        draft = λ w. absurd w;
      },
    ))
    (λ w.
    let e = only split m w in
    let p' : Proper n split d = rw e at p in
    rw e (n, record { measures = p'.measures; some = p'.some; rules = p'.rules; formed = p'.formed; number = p'.number; sides = new; base = p'.base; draft = λ w. absurd w }))
proper_after (edit s client x y kind z) m d g (n, p) k =
    let i = range (length d.sides) (natural s) k.1.0 in
    let h = nltb→le number_limit d.next k.1.1.1.1.1.1.1.1.0 in (
      n,
      record {
        measures = p.measures;
        some = p.some;
        rules = p.rules;
        formed = p.formed;
        number = in_range_lem next_limit (suc d.next) (omega arith) (omega arith);
        sides = all-modify (λ x. fit n x.values) absent_side (natural s) (on_values (made (natural y) (change_of kind z))) d.sides p.sides
            (fit_made n (natural y) (change_of kind z) (side_at d (natural s)).values (side_fit n d (natural s) p.sides i.0 i.1) k.1.1.1.1.1.1.1.1.1.0);
        base = p.base;
        draft = p.draft;
      },
    )
proper_after join m d g (n, p) k =
    let p' : Proper n split d = rw (only split m k.0) at p in (
      n,
      record {
        measures = p'.measures;
        some = p'.some;
        rules = p'.rules;
        formed = p'.formed;
        number = p'.number;
        sides = rw (all_map (λ x. fit n x.values) reset d.sides (λ x. refl {a = fit n x.values})) p'.sides;
        base = λ w. p'.base tt;
        draft = λ w. p'.base tt;
      },
    )
proper_after (send s) m d g (n, p) k = (
  n,
  record {
    measures = p.measures;
    some = p.some;
    rules = p.rules;
    formed = p.formed;
    number = p.number;
    sides = rw (all-kept (λ x. fit n x.values) (natural s) has_arrived d.sides (λ x. refl)) p.sides;
    base = p.base;
    draft = p.draft;
  },
)
proper_after (replay x) m d g (n, p) k = (
  n,
  record {
    measures = p.measures;
    some = p.some;
    rules = p.rules;
    formed = p.formed;
    number = p.number;
    sides = p.sides;
    base = p.base;
    draft = λ w. cases (replayable d (natural x)) (λ e. rw e (replayable_fit n d (natural x) (p.draft w) (is_yes e))) (λ e. rw e (p.draft w));
  },
)
proper_after stop m d g (n, p) k =
    let p' : Proper n joining d = rw (only joining m k.0) at p in
    (n, record { measures = p'.measures; some = p'.some; rules = p'.rules; formed = p'.formed; number = p'.number; sides = p'.sides; base = p'.base; draft = p'.draft })
proper_after (confirm s) m d g (n, p) k = (
  n,
  record {
    measures = p.measures;
    some = p.some;
    rules = p.rules;
    formed = p.formed;
    number = p.number;
    sides = rw (all-kept (λ x. fit n x.values) (natural s) has_confirmed d.sides (λ x. refl)) p.sides;
    base = p.base;
    draft = p.draft;
  },
)
proper_after install m d g (n, p) k =
    let p' : Proper n closing d = rw (only closing m k.0) at p in (
      n,
      record {
        measures = p'.measures;
        some = p'.some;
        rules = p'.rules;
        formed = p'.formed;
        number = p'.number;
        sides = and_in (fit n d.draft) true (p'.draft tt) tt;
        base = λ w. absurd w;
        draft = λ w. absurd w;
      },
    )
proper_after (show s room) m d g p k = p
proper_after (fate_of_edit x) m d g p k = p
proper_after left m d g p k = p
