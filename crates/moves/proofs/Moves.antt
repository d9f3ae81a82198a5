-- Laws of send, stop, confirm and install: the checks from what the code looks at, and the plan after each call. Assumes nothing.
use Prim.Native.Nat.{ℕ, min}
use native.Mathlib.Omega.{arith}
use mathlib.Core.Bool.{Bool, true, false, not, cond, ◌||◌}
use mathlib.Core.Path.{◌≡◌, refl, sym, ap, ap₂, ◌∙◌}
use mathlib.Core.List.{List, [], ◌∷◌, map}
use lib.Dec.{T, ltb, eqb→eq}
use lib.IntN.{ℤ, pos}
use lib.ListN.{length, get_or, set}
use Rattle.protocol.specs.Lists.{is_none, one_to, natural, count, modify}
use Rattle.protocol.specs.Plan.{mode_number, closing, is, active, is_waiting, Side, side_at, sides_that, unsent_of}
use Rattle.protocol.specs.Calls.{Call, Check, ◌unless◌, ◌when◌, fine, first, refused, checks, further, after, gives, ok, stop, confirm, send, install, has_arrived, has_confirmed, mark_sent}
use Rattle.protocol.proofs.Laws.{range, is_yes}
use Rattle.rows.specs.Rows.{span, copied_in}
use Rattle.rows.proofs.Copies.{row_copied}
use Rattle.rows.proofs.Spans.{get_d_set}
use Rattle.records.specs.declared.EditRecord.{EditRecord}
use Rattle.heads.specs.declared.Head.{Head}
use Rattle.heads.specs.declared.Mode.TheVariants.{Closing}
use Rattle.state.specs.Spread.{Spread}
use Rattle.heads.specs.Heads.{mode_of, sides_in, index_of, unset_in}
use Rattle.records.specs.Records.{kept_of}
use Rattle.state.specs.Spread.{plan_of, side_of}
use Rattle.state.specs.Meets.{done, number}
use Rattle.state.specs.Spread.{MeetsSpread}
use Rattle.state.proofs.View.{plan-same, sides_most, sides-length, side_at_lem, sides-modify, flags_unset}
use Rattle.state.proofs.Steps.{accepts, stored, flag_set, flag_other}
use Rattle.moves.specs.Moves.{send_checks, turn_checks, confirm_checks, install_head}
use Rattle.moves.proofs.Makes.{Checked}

-- ---- the checks of each call

abbrev waiting_in : Spread → ℕ
waiting_in p = count is_waiting (plan_of p).content.kept

-- stop and install, from the sides that miss a flag and the edits that wait
module _ (c : Call) (p : Spread) (m j : ℕ) (flag : Side → Bool) (flags : List Bool) where
  turn_checked : ((s : ℕ) → flag (side_of p s) ≡ get_or flags (index_of s) false)
      → first (checks c (plan_of p)) ≡ first (turn_checks p.head m j (sides_that (λ s. not (flag (side_at (plan_of p).content s))) (plan_of p).content) (waiting_in p))
      → {missing waiting : ℕ} → waiting ≡ waiting_in p → missing ≡ unset_in flags (sides_in p.head)
      → Checked c p (turn_checks p.head m j (unset_in flags (sides_in p.head)) (waiting_in p)) (turn_checks p.head m j missing waiting)
  turn_checked h same w u = record {
    same = same ∙ ap (λ n. first (turn_checks p.head m j n (waiting_in p))) (flags_unset p flag flags h);
    finds = ap₂ (λ x y. first (turn_checks p.head m j x y)) u w;
  }

abbrev pub stopping : Spread → List Check
stopping p = turn_checks p.head 3 34 (unset_in p.arrived (sides_in p.head)) (waiting_in p)

abbrev pub installing : Spread → List Check
installing p = turn_checks p.head 4 40 (unset_in p.confirmed (sides_in p.head)) (waiting_in p)

module _ (p : Spread) {missing waiting : ℕ} (w : waiting ≡ waiting_in p) where
  pub stop_checked : missing ≡ unset_in p.arrived (sides_in p.head) → Checked stop p (stopping p) (turn_checks p.head 3 34 missing waiting)
  unfolding checks further
  stop_checked u = turn_checked stop p 3 34 (λ x. x.arrived) p.arrived (λ s. refl) refl w u

  pub install_checked : missing ≡ unset_in p.confirmed (sides_in p.head) → Checked install p (installing p) (turn_checks p.head 4 40 missing waiting)
  unfolding checks further
  install_checked u = turn_checked install p 4 40 (λ x. x.confirmed) p.confirmed (λ s. refl) refl w u

abbrev unsent_by : Spread → ℤ → ℕ
unsent_by p s = unsent_of (natural s) (plan_of p).content.kept

-- send and confirm, from the side's number, its place and, if there is such a side, the edits that it has unsent
pub record Named (p : Spread) (s : ℤ) (side i n : ℕ) : Type 0 where
  pub number : side ≡ natural s
  pub place : i ≡ index_of side
  pub unsent : T (one_to (sides_in p.head) (natural s)) → n ≡ unsent_by p s

abbrev named : Bool → ℕ → ℕ → List Check → List Check
named b k s cs = (31 unless b) ∷ (21 unless one_to k s) ∷ cs

if_true : {A : Type 0} (b : Bool) (x y z : A) → (b ≡ true → x ≡ y) → cond b x z ≡ cond b y z
if_true true x y z h = h refl
if_true false x y z h = refl

-- a side is asked for its flag only once its number was found to be a side's
module _ (c : Call) (p : Spread) (s : ℤ) (b : Bool) (flag : Side → Bool) (flags : List Bool) (f : Bool → ℕ → List Check) where
  named_checked : ((x : ℕ) → flag (side_of p x) ≡ get_or flags (index_of x) false)
      → first (checks c (plan_of p)) ≡ first (named b (length (plan_of p).content.sides) (natural s) (f (flag (side_at (plan_of p).content (natural s))) (unsent_by p s)))
      → {side i n : ℕ} → Named p s side i n
      → Checked c p (named b (sides_in p.head) (natural s) (f (get_or flags (index_of (natural s)) false) (unsent_by p s))) (named b (sides_in p.head) side (f (get_or flags i false) n))
  named_checked h same {n = n} w = record {
    same =
        same ∙ ap (λ n. first (named b n (natural s) (f (flag (side_at (plan_of p).content (natural s))) (unsent_by p s)))) (sides-length p)
        ∙ ap (λ v. cond b v (refused 31)) (if_true (one_to (sides_in p.head) (natural s)) _ _ (refused 21)
        (λ t. let r = range (sides_in p.head) (natural s) (is_yes t) in ap (λ x. first (f x (unsent_by p s))) (ap flag (side_at_lem p (natural s) r.0 r.1) ∙ h (natural s))));
    finds =
        ap₂ (λ x y. first (named b (sides_in p.head) x (f (get_or flags y false) n))) w.number (w.place ∙ ap index_of w.number)
        ∙ ap (λ v. cond b v (refused 31))
        (if_true (one_to (sides_in p.head) (natural s)) _ _ (refused 21) (λ t. ap (λ y. first (f (get_or flags (index_of (natural s)) false) y)) (w.unsent (is_yes t))));
  }

abbrev pub confirming : Spread → ℤ → List Check
confirming p s = confirm_checks p.head (natural s) (side_of p (natural s)).confirmed (unsent_by p s)

abbrev pub sending : Spread → ℤ → List Check
sending p s = send_checks p.head (natural s) (side_of p (natural s)).arrived (unsent_by p s)

module _ (p : Spread) (s : ℤ) {side i n : ℕ} (w : Named p s side i n) where
  pub confirm_checked : Checked (confirm s) p (confirming p s) (confirm_checks p.head side (get_or p.confirmed i false) n)
  unfolding checks further
  confirm_checked =
      named_checked (confirm s) p s (is closing (plan_of p).mode) (λ x. x.confirmed) p.confirmed (λ x u. (39 when x) ∷ (38 unless is_none u) ∷ []) (λ x. refl) refl w

  pub send_checked : Checked (send s) p (sending p s) (send_checks p.head side (get_or p.arrived i false) n)
  unfolding checks further
  send_checked =
      named_checked (send s) p s (active (plan_of p).mode) (λ x. x.arrived) p.arrived (λ x u. (33 unless (not x || ltb 0 u)) ∷ []) (λ x. refl) refl w

-- ---- the plan after each call

abbrev pub stop_to : Spread → Spread
stop_to p = stored p (record p.head { mode = Closing }) p.base p.draft p.values p.arrived p.confirmed p.edits

pub stop-accepts : (p : Spread) {found : List Check} → Checked stop p (stopping p) found → fine ≡ first found → MeetsSpread stop p (record { state = stop_to p; answer = done })
unfolding after gives
stop-accepts p k e = accepts (stopping p) _ k.same (sym (e ∙ k.finds)) (λ t. refl) (λ t. rw (eqb→eq (mode_number (mode_of p.head.mode)) 3 t.0)) tt

abbrev pub install_to : Spread → Spread
install_to p = stored p (install_head p.head) p.base p.draft (copied_in p.values p.draft 0 0 32) (set p.arrived 0 false) (set p.confirmed 0 false) p.edits

pub install-accepts : (p : Spread) {found : List Check} → Checked install p (installing p) found → length p.draft ≡ 32 → length p.values ≡ 256 → length p.arrived ≡ 8 → length p.confirmed ≡ 8
    → fine ≡ first found → MeetsSpread install p (record { state = install_to p; answer = done })
unfolding after gives
install-accepts p k d v a c e =
    accepts (installing p) _ k.same (sym (e ∙ k.finds)) (λ t. refl)
    (λ t. rw (eqb→eq (mode_number (mode_of p.head.mode)) 4 t.0)
    (plan-same refl refl refl refl refl
    (λ i. record {
      values = row_copied p.values p.draft 0 0 (min p.head.drafted 32) (omega arith) (omega arith) (omega arith) i;
      arrived = get_d_set p.arrived 0 false false
          (omega arith) i;
      confirmed = get_d_set p.confirmed 0 false false (omega arith) i;
    } ∷ []) refl))
    tt

-- a side's flag set, whatever else a side is made of
flag_sides : (h : Head) (s : ℕ) (flags : List Bool) (made : ℕ → Bool → Side) (g : Side → Side) → T (one_to (sides_in h) s) → length flags ≡ 8 → ((k : ℕ) (b : Bool) → made k true ≡ g (made k b))
    → span 1 (sides_in h) (λ k. made k (get_or (set flags (index_of s) true) (index_of k) false)) ≡ modify s g (span 1 (sides_in h) (λ k. made k (get_or flags (index_of k) false)))
flag_sides h s flags made g t l e =
    let m = sides_most h in
    let r = range (sides_in h) s t in
    sides-modify s (sides_in h) g _ _ r.0 r.1
    (ap (made s) (flag_set flags true s l) ∙ e s _)
    (λ k a b ne. ap (made k) (flag_other flags true s k r.0 (omega (arith, r.1)) a (omega arith) ne))

at_place : {p : Spread} {s : ℤ} {side i n : ℕ} → Named p s side i n → i ≡ index_of (natural s)
at_place w = w.place ∙ ap index_of w.number

pub confirm-accepts : (p : Spread) (s : ℤ) {side i n : ℕ} {found : List Check} → Named p s side i n → Checked (confirm s) p (confirming p s) found → length p.confirmed ≡ 8 → fine ≡ first found
    → MeetsSpread (confirm s) p (record { state = stored p p.head p.base p.draft p.values p.arrived (set p.confirmed i true) p.edits; answer = done })
unfolding after gives
confirm-accepts p s w k l e =
    rw (at_place w) (accepts (confirming p s) _ k.same (sym (e ∙ k.finds)) (λ t. refl)
    (λ t. plan-same refl refl refl refl refl
    (flag_sides p.head (natural s) p.confirmed (λ x b. record { values = (side_of p x).values; arrived = (side_of p x).arrived; confirmed = b }) has_confirmed t.1.0 l (λ x b. refl))
    refl)
    tt)

pub send-accepts : (p : Spread) (s : ℤ) {side i n : ℕ} {found : List Check} → Named p s side i n → Checked (send s) p (sending p s) found → (es : List EditRecord) → kept_of p.head es ≡ map
    (mark_sent side) (kept_of p.head p.edits) → length p.arrived ≡ 8 → fine ≡ first found
    → MeetsSpread (send s) p (record { state = stored p p.head p.base p.draft p.values (set p.arrived i true) p.confirmed es; answer = number n })
unfolding after gives
send-accepts p s w k es m l e =
    rw (at_place w) (accepts (sending p s) _ k.same (sym (e ∙ k.finds))
    (λ t. ap (λ x. ok (pos x ∷ [])) (w.unsent t.1.0))
    (λ t. plan-same refl refl refl refl refl
    (flag_sides p.head (natural s) p.arrived (λ x b. record { values = (side_of p x).values; arrived = b; confirmed = (side_of p x).confirmed }) has_arrived t.1.0 l (λ x b. refl))
    (m ∙ ap (λ x. map (mark_sent x) (kept_of p.head p.edits)) w.number))
    tt)
