-- No answer is longer than `longest_answer`, on any plan whose numbers have at most 32 bits and whose lists keep to their limits; and every call keeps a plan so.
-- Assumes nothing.
use Prim.Native.Nat.{ℕ, zero, suc, ◌*◌, ◌<◌, ◌≤◌}
use native.Mathlib.Omega.{arith}
use mathlib.Core.Path.{◌≡◌, refl, ap}
use mathlib.Core.Bool.{Bool, true, false, not, ◌&&◌}
use mathlib.Core.List.{List, [], ◌∷◌}
use mathlib.Core.Option.{Option, none, some}
use lib.Dec.{T, eqb, leb, ltb, leb→le, ltb→lt, le→leb, eqb→eq, nltb→le, nleb→lt}
use lib.IntN.{ℤ, pos, negsuc}
use lib.ListN.{length, length-append, length-map}
use lib.Signed.{mag}
use Rattle.protocol.specs.Lists.{bit, natural, within, all, any, snoc, nth}
use Rattle.protocol.specs.Plan as plan
use Rattle.protocol.specs.Plan.{measure_limit, value_limit, rule_limit, side_limit, kept_limit, number_limit, Kept, Side, Mode, Content, Plan, whole, is, in_range, is_settled, is_open, applied, made, fits, value, absent_side, side_at, lookup, fate_number}
use Rattle.protocol.specs.Calls.{Call, measure, rule, open_plan, split-side, edit, join, send, replay, stop, confirm, install, show, fate_of_edit, left, Verdict, fine, refused, first, checks, further, change_of, edit_of, rule_of, apart, first_values, reset, on_values, has_arrived, has_confirmed, fresh_side, mark_sent, outcome, update, next_place, replayable, after, gives, left_in, left_of, fate_in, refusals, no, ok, step_by, step}
use Rattle.protocol.proofs.Laws.{cases, yes_is, is_yes, both, and_in, Fine, Pass, passed, length-snoc, length-modify, all_snoc, all_map, all-modify, all-kept, count_to_most, count_most}
use Rattle.protocol.proofs.Replays.{accepted-fits}
use Rattle.protocol.proofs.Refusals.{AnswerAgreed, answer-agreed}
use Rattle.format.specs.Numbers.{digits, written}
use Rattle.format.specs.Lines.{line_call}
use Rattle.format.specs.Sheets.{spaced, text, step_of, line_step}
use Rattle.format.specs.Longest.{number_width, longest_answer}
use Rattle.format.proofs.Digits.{length_most}
use Rattle.format.proofs.Texts.{written_pos, written_below, text-no, text-ok, text-done}

-- ---- numbers

abbrev pub is_short : ℤ → Bool
is_short x = leb (length (written x)) number_width

width : (x : ℤ) → mag x < 9999999999 → length (written x) ≤ 11
width (pos n) h = let e = ap length (written_pos n) in let m = length_most 9 n (omega arith) in omega arith
width (negsuc n) h = let e = ap length (written_below n) in let m = length_most 9 (suc n) (omega arith) in omega arith

pub short : (x : ℤ) → mag x < 9999999999 → T (is_short x)
short x h = le→leb (length (written x)) 11 (width x h)

short_count : (n : ℕ) → n < 9999999999 → T (is_short (pos n))
short_count n h = short (pos n) h

in_range_short : (v : ℤ) → T (in_range v) → T (is_short v)
unfolding within
in_range_short (pos n) t = short (pos n) (let l = leb→le n value_limit (both true (leb n value_limit) t).1 in omega arith)
in_range_short (negsuc n) t = short (negsuc n) (let l = leb→le n 999999 (both (leb n 999999) true t).0 in omega arith)

-- ---- plans

-- as many values as a plan may have measures, each of them short
abbrev pub is_row : List ℤ → Bool
is_row vs = leb (length vs) measure_limit && all is_short vs

abbrev is_side_row : Side → Bool
is_side_row x = is_row x.values

abbrev short_place : Kept → Bool
short_place k = is_short (pos k.place)

pub record Narrow (d : Content) : Type 0 where
  pub rules : length d.rules ≤ rule_limit
  pub next : T (is_short (pos d.next))
  pub base : T (is_row d.base)
  pub draft : T (is_row d.draft)
  pub sides : length d.sides ≤ side_limit
  pub values : T (all is_side_row d.sides)
  pub kept : length d.kept ≤ kept_limit
  pub places : T (all short_place d.kept)

-- ---- lists

module _ {A : Type 0} where
  nth-all : (p : A → Bool) (d : A) (xs : List A) (n : ℕ) → T (p d) → T (all p xs) → T (p (nth d xs n))
  nth-all p d xs zero t h = t
  nth-all p d [] (suc n) t h = t
  nth-all p d (x ∷ xs) (suc zero) t h = (both (p x) (all p xs) h).0
  nth-all p d (x ∷ xs) (suc (suc n)) t h = nth-all p d xs (suc n) t (both (p x) (all p xs) h).1

length-update : (n : ℕ) (f : Kept → Kept) (ks : List Kept) → length (update n f ks) ≡ length ks
length-update n f [] = refl
length-update n f (k ∷ ks) = cases (eqb n k.edit.number) (λ e. rw e) (λ e. rw e (ap suc (length-update n f ks)))

all-update : (p : Kept → Bool) (n : ℕ) (f : Kept → Kept) (ks : List Kept) → ((k : Kept) → T (p (f k))) → T (all p ks) → T (all p (update n f ks))
all-update p n f [] h t = tt
all-update p n f (k ∷ ks) h t =
    let b = both (p k) (all p ks) t in
    cases (eqb n k.edit.number)
    (λ e. rw e (and_in (p (f k)) (all p ks) (h k) b.1))
    (λ e. rw e (and_in (p k) (all p (update n f ks)) b.0 (all-update p n f ks h b.1)))

-- ---- rows

row_in : (vs : List ℤ) → length vs ≤ measure_limit → T (all is_short vs) → T (is_row vs)
row_in vs l t = and_in (leb (length vs) measure_limit) (all is_short vs) (le→leb (length vs) measure_limit l) t

row_out : (vs : List ℤ) → T (is_row vs) → (length vs ≤ measure_limit) × T (all is_short vs)
row_out vs t = let b = both (leb (length vs) measure_limit) (all is_short vs) t in (leb→le (length vs) measure_limit b.0, b.1)

row_snoc : (vs : List ℤ) (v : ℤ) → length vs < measure_limit → T (is_row vs) → T (in_range v) → T (is_row (snoc vs v))
row_snoc vs v l t r =
    let o = row_out vs t in
    let e = length-snoc vs v in
    row_in (snoc vs v) (omega arith) (all_snoc is_short vs v o.1 (in_range_short v r))

row_made : (vs : List ℤ) (m : ℕ) (ch : plan.Change) → T (is_row vs) → T (fits m ch vs) → T (is_row (made m ch vs))
unfolding made fits value
row_made vs m ch t r =
    let o = row_out vs t in
    let e = length-modify m (applied ch) vs in
    row_in (made m ch vs) (omega (arith, e, o.0)) (all-modify is_short (pos 0) m (applied ch) vs o.1 (in_range_short (applied ch (nth (pos 0) vs m)) r))

side-row : (d : Content) (s : ℕ) → Narrow d → T (is_row (side_at d s).values)
side-row d s g = nth-all is_side_row absent_side d.sides s tt g.values

mark_sent-place : (s : ℕ) (k : Kept) → short_place (mark_sent s k) ≡ short_place k
mark_sent-place s k = cases (plan.is_unsent k && eqb k.edit.side s) (λ e. rw e) (λ e. rw e)

-- ---- every call keeps a plan narrow

narrow_after : (c : Call) (m : Mode) (d : Content) → Narrow d → Pass (checks c (record { mode = m; content = d })) → Narrow (after c m d).content
unfolding after checks further
narrow_after (measure v) m d g k = record {
  rules = g.rules;
  next = g.next;
  base = g.base;
  draft = g.draft;
  sides = rw (length-modify 1 (on_values (λ vs. snoc vs v)) d.sides) g.sides;
  values = all-modify is_side_row absent_side 1 (on_values (λ vs. snoc vs v)) d.sides g.values
      (row_snoc (first_values d) v (ltb→lt (length (first_values d)) measure_limit k.1.0) (side-row d 1 g) k.1.1.0);
  kept = g.kept;
  places = g.places;
}
narrow_after (rule a c b f) m d g k = record {
  rules = let l = ltb→lt (length d.rules) rule_limit k.1.0 in let e = length-snoc d.rules (rule_of a c b f) in omega arith;
  next = g.next;
  base = g.base;
  draft = g.draft;
  sides = g.sides;
  values = g.values;
  kept = g.kept;
  places = g.places;
}
narrow_after open_plan m d g k = record
    { rules = g.rules; next = short_count 1 (omega arith); base = g.base; draft = g.draft; sides = g.sides; values = g.values; kept = g.kept; places = g.places }
narrow_after (split-side s) m d g k = cases (is whole m)
    (λ e. rw e (record { rules = g.rules; next = g.next; base = side-row d 1 g; draft = g.draft; sides = sides; values = values; kept = omega arith; places = tt }))
    (λ e. rw e (record { rules = g.rules; next = g.next; base = g.base; draft = g.draft; sides = sides; values = values; kept = g.kept; places = g.places }))
  where
    new : Side
    new = fresh_side (side_at d (natural s)).values

    sides : length (snoc d.sides (fresh_side (side_at d (natural s)).values)) ≤ side_limit
    sides = let l = ltb→lt (length d.sides) side_limit k.1.1.0 in let e = length-snoc d.sides (fresh_side (side_at d (natural s)).values) in omega arith

    values : T (all is_side_row (snoc d.sides (fresh_side (side_at d (natural s)).values)))
    values = all_snoc is_side_row d.sides (fresh_side (side_at d (natural s)).values) g.values (side-row d (natural s) g)
narrow_after (edit s client n x kind y) m d g k = record {
  rules = g.rules;
  next = short_count (suc d.next) (let l = nltb→le number_limit d.next k.1.1.1.1.1.1.1.1.0 in omega arith);
  base = g.base;
  draft = g.draft;
  sides = rw (length-modify (natural s) (on_values (made (natural x) (change_of kind y))) d.sides) g.sides;
  values =
      all-modify is_side_row absent_side (natural s) (on_values (made (natural x) (change_of kind y))) d.sides g.values
      (row_made (side_at d (natural s)).values (natural x) (change_of kind y) (side-row d (natural s) g) k.1.1.1.1.1.1.1.1.1.0);
  kept = cases (is whole m) (λ e. rw e g.kept) (λ e. rw e (room e));
  places = cases (is whole m) (λ e. rw e g.places) (λ e. rw e (all_snoc short_place d.kept (new e) g.places (short_count 0 (omega arith))));
}
  where
    new : is whole m ≡ false → Kept
    new e = record { edit = edit_of d.next s client n x kind y; fate = plan.unsent; replied = is plan.split m; place = 0 }

    room : (e : is whole m ≡ false) → length (snoc d.kept (new e)) ≤ kept_limit
    room e =
        let a : T (apart m) = rw e at k.0 in
        let l : T (not (leb kept_limit (length d.kept))) = rw (yes_is (apart m) a) at k.1.1.1.1.1.1.1.0 in
        let b = nleb→lt kept_limit (length d.kept) l in
        let e = length-snoc d.kept (new e) in
        omega arith
narrow_after join m d g k = record {
  rules = g.rules;
  next = g.next;
  base = g.base;
  draft = g.base;
  sides = rw (length-map d.sides reset) g.sides;
  values = rw (all_map is_side_row reset d.sides (λ x. refl)) g.values;
  kept = g.kept;
  places = g.places;
}
narrow_after (send s) m d g k = record {
  rules = g.rules;
  next = g.next;
  base = g.base;
  draft = g.draft;
  sides = rw (length-modify (natural s) has_arrived d.sides) g.sides;
  values = rw (all-kept is_side_row (natural s) has_arrived d.sides (λ x. refl)) g.values;
  kept = rw (length-map d.kept (mark_sent (natural s))) g.kept;
  places = rw (all_map short_place (mark_sent (natural s)) d.kept (mark_sent-place (natural s))) g.places;
}
narrow_after (replay n) m d g k = record {
  rules = g.rules;
  next = g.next;
  base = g.base;
  draft = cases (replayable d (natural n)) (λ e. rw e (row_made d.draft x.measure x.change g.draft (accepted-fits d (natural n) (is_yes e)))) (λ e. rw e g.draft);
  sides = g.sides;
  values = g.values;
  kept = rw (length-update (natural n) _ d.kept) g.kept;
  places = all-update short_place (natural n) _ d.kept (λ y. short_count (next_place d.kept) (let l = count_most is_settled d.kept in omega (arith, g.kept))) g.places;
}
  where
    x : plan.Edit
    x = (lookup (natural n) d.kept).edit
narrow_after stop m d g k = g
narrow_after (confirm s) m d g k = record {
  rules = g.rules;
  next = g.next;
  base = g.base;
  draft = g.draft;
  sides = rw (length-modify (natural s) has_confirmed d.sides) g.sides;
  values = rw (all-kept is_side_row (natural s) has_confirmed d.sides (λ x. refl)) g.values;
  kept = g.kept;
  places = g.places;
}
narrow_after install m d g k = record {
  rules = g.rules;
  next = g.next;
  base = g.base;
  draft = g.draft;
  sides = omega arith;
  values = and_in (is_row d.draft) true g.draft tt;
  kept = g.kept;
  places = g.places;
}
narrow_after (show s room) m d g k = g
narrow_after (fate_of_edit n) m d g k = g
narrow_after left m d g k = g

-- ---- the numbers that a call gives are a row

one : (n : ℕ) → n < 9999999999 → T (is_row (pos n ∷ []))
one n h = row_in (pos n ∷ []) (omega arith) (and_in (is_short (pos n)) true (short_count n h) tt)

fate-least : (f : plan.Fate) → fate_number f ≤ 4
fate-least plan.unsent = omega arith
fate-least plan.waiting = omega arith
fate-least plan.accepted = omega arith
fate-least plan.revoked = omega arith

two : (m n : ℕ) → m ≤ 4 → T (is_short (pos n)) → T (is_row (pos m ∷ pos n ∷ []))
two m n h t =
    row_in (pos m ∷ pos n ∷ []) (omega arith) (and_in (is_short (pos m)) (is_short (pos n) && true) (short_count m (omega arith)) (and_in (is_short (pos n)) true t tt))

fate-row : (n : ℕ) (ks : List Kept) → T (all short_place ks) → T (is_row (fate_in n ks))
fate-row n [] t = two 0 0 (omega arith) (short_count 0 (omega arith))
fate-row n (k ∷ ks) t =
    let b = both (short_place k) (all short_place ks) t in
    cases (eqb n k.edit.number) (λ e. rw e (two (fate_number k.fate) k.place (fate-least k.fate) b.0)) (λ e. rw e (fate-row n ks b.1))

left_most : (m : Mode) (d : Content) → Narrow d → left_in (record { mode = m; content = d }) ≤ 274
left_most m d g =
    let a = count_to_most (plan.pending d) (length d.sides) in
    let b = count_most is_open d.kept in
    let c = count_to_most (λ s. not (side_at d s).confirmed) (length d.sides) in
    let j : bit (is plan.joining m) ≤ 1 = cases (is plan.joining m) (λ e. rw e (omega arith)) (λ e. rw e (omega arith)) in
    let l : left_of m d ≤ 274 = omega (arith, g.sides, g.kept) in
    cases (plan.active m) (λ e. rw e l) (λ e. rw e (omega arith))

gives_row : (c : Call) (m : Mode) (d : Content) → Narrow d → T (is_row (gives c m d))
unfolding gives
gives_row (measure v) m d g = one (suc (length (first_values d))) (let l = (row_out (first_values d) (side-row d 1 g)).0 in omega arith)
gives_row (rule a c b f) m d g = one (suc (length d.rules)) (omega (arith, g.rules))
gives_row open_plan m d g = tt
gives_row (split-side s) m d g = one (suc (length d.sides)) (omega (arith, g.sides))
gives_row (edit s client n x kind y) m d g = row_in (pos d.next ∷ []) (omega arith) (and_in (is_short (pos d.next)) true g.next tt)
gives_row join m d g = tt
gives_row (send s) m d g = one (plan.unsent_of (natural s) d.kept) (let l = count_most (λ k. plan.is_unsent k && eqb k.edit.side (natural s)) d.kept in omega (arith, g.kept))
gives_row (replay n) m d g = one (fate_number (outcome (replayable d (natural n)))) (let l = fate-least (outcome (replayable d (natural n))) in omega arith)
gives_row stop m d g = tt
gives_row (confirm s) m d g = tt
gives_row install m d g = tt
gives_row (show s room) m d g = side-row d (natural s) g
gives_row (fate_of_edit n) m d g = fate-row (natural n) d.kept g.places
gives_row left m d g = one (left_in (record { mode = m; content = d })) (let l = left_most m d g in omega arith)

-- ---- how long an answer line is

spaced_most : (xs : List ℤ) → T (all is_short xs) → length (spaced xs) ≤ 12 * length xs
unfolding written
spaced_most [] t = omega arith
spaced_most (x ∷ xs) t =
    let b = both (is_short x) (all is_short xs) t in
    let i = spaced_most xs b.1 in
    let w = leb→le (length (written x)) 11 b.0 in
    let e = length-append (written x) (spaced xs) in
    omega arith

ok_most : (xs : List ℤ) → T (is_row xs) → length (text (ok xs)) ≤ longest_answer
ok_most [] t = let e = ap length text-done in omega arith
ok_most (x ∷ xs) t =
    let o = row_out (x ∷ xs) t in
    let s = spaced_most (x ∷ xs) o.1 in
    let e = ap length (text-ok x xs) in
    let l = length-append (spaced (x ∷ xs)) (10 ∷ []) in
    omega (arith, o.0)

-- every refusal has two digits
refusal_below : (k : ℕ) (ks : List ℕ) → T (all (λ n. ltb n 100) ks) → T (any (eqb k) ks) → k < 100
refusal_below k [] t u = absurd u
refusal_below k (n ∷ ns) t u =
    let b = both (ltb n 100) (all (λ n. ltb n 100) ns) t in
    cases (eqb k n)
    (λ e. let h = eqb→eq k n (is_yes e) in let l = ltb→lt n 100 b.0 in omega arith)
    (λ e. refusal_below k ns b.1 (rw e at u))

no_most : (k : ℕ) → k < 100 → length (text (no k)) ≤ longest_answer
no_most k h =
    let e = ap length (text-no k) in
    let d = length_most 1 k (omega arith) in
    let l = length-append (digits k) (10 ∷ []) in
    omega arith

-- ---- the laws: every line keeps a plan narrow, and no answer on a narrow plan is longer

pub narrow_step : (c : Call) (p : Plan) → Narrow p.content → Narrow (step c p).plan.content
unfolding step
narrow_step c p g = by (first (checks c p)) (λ t. passed (checks c p) t)
  where
    by : (v : Verdict) → (Fine v → Pass (checks c p)) → Narrow (step_by v c p).plan.content
    by fine k = narrow_after c p.mode p.content g (k tt)
    by (refused n) k = g

longest_step : (c : Call) (p : Plan) → Narrow p.content → length (text (step c p).answer) ≤ longest_answer
unfolding step
longest_step c p g = by (first (checks c p)) (answer-agreed c p)
  where
    by : (v : Verdict) → AnswerAgreed (step_by v c p).answer → length (text (step_by v c p).answer) ≤ longest_answer
    by fine t = ok_most (gives c p.mode p.content) (gives_row c p.mode p.content g)
    by (refused k) t = no_most k (refusal_below k refusals tt t)

-- of every line, whether it can be read or not
module _ (l : List ℕ) (p : Plan) (g : Narrow p.content) where
  pub narrow_line : Narrow (line_step l p).plan.content
  unfolding line_step
  narrow_line = by (line_call l)
    where
      by : (c : Option Call) → Narrow (step_of c p).plan.content
      by none = g
      by (some c) = narrow_step c p g

  pub longest : length (text (line_step l p).answer) ≤ longest_answer
  unfolding line_step
  longest = by (line_call l)
    where
      by : (c : Option Call) → length (text (step_of c p).answer) ≤ longest_answer
      by none = no_most 51 (omega arith)
      by (some c) = longest_step c p g
