-- Believed: the plan (01, "The plan"): what it holds, what a change does, when it takes effect. Assumes nothing.
use Rattle.std.specs.Prelude.{ℕ, Bool, false, not, cond, ◌&&◌, ◌||◌, List, [], ◌∷◌, length, eqb, ltb, ℤ, pos, ◌+ℤ◌, ◌*ℤ◌}
use Rattle.std.specs.Int.Signed.{lt_z, quot_z}
use Rattle.protocol.specs.Lists.{count_to, neg, within, count, all, any, nth, modify}

-- ---- limits

abbrev pub measure_limit : ℕ
measure_limit = 32

abbrev pub value_limit : ℕ
value_limit = 1_000_000

abbrev pub rule_limit : ℕ
rule_limit = 64

abbrev pub gap_limit : ℕ
gap_limit = 2_000_000

abbrev pub side_limit : ℕ
side_limit = 8

abbrev pub kept_limit : ℕ
kept_limit = 256

abbrev pub factor_limit : ℕ
factor_limit = 10

abbrev pub client_limit : ℕ
client_limit = 999

abbrev pub number_limit : ℕ
number_limit = 999_999

-- ---- what a plan holds

-- Rule (a, c, b, f): measure a plus c is less than measure b. An integrity constraint; firm is 001's "critical".
pub record Rule : Type 0 where
  pub lower : ℕ
  pub gap : ℤ
  pub upper : ℕ
  pub firm : Bool

-- the kind numbers 1 to 4, where assign is 01's "set"; any other number is no kind
pub data Kind : Type 0 where
  assign add multiply divide unknown : Kind

-- an operation
pub record Change : Type 0 where
  pub kind : Kind
  pub constant : ℤ

-- an edit as its client made it: an operation instance; earlier is the number of the edit that it names, or 0
pub record Edit : Type 0 where
  pub number : ℕ
  pub side : ℕ
  pub client : ℕ
  pub earlier : ℕ
  pub measure : ℕ
  pub change : Change

-- the fates of a kept edit, its outcome; 0 is the number of an edit that is not kept
pub data Fate : Type 0 where
  unsent waiting accepted revoked : Fate

-- a kept edit: a log entry; place is its position in the order of settling, 0 while unsettled
pub record Kept : Type 0 where
  pub edit : Edit
  pub fate : Fate
  pub replied : Bool
  pub place : ℕ

-- a side: a partition (000); arrived says that its first log has arrived
pub record Side : Type 0 where
  pub values : List ℤ
  pub arrived : Bool
  pub confirmed : Bool

-- 000's figure 1 calls the last four normal, degraded, reconciling and installing
pub data Mode : Type 0 where
  blank whole split joining closing : Mode

-- All but the mode. next is the next edit number; base the checkpoint; draft the state that the join constructs.
pub record Content : Type 0 where
  pub rules : List Rule
  pub next : ℕ
  pub base : List ℤ
  pub draft : List ℤ
  pub sides : List Side
  pub kept : List Kept

pub record Plan : Type 0 where
  pub mode : Mode
  pub content : Content

-- ---- modes and fates, told apart by their numbers

abbrev pub mode_number : Mode → ℕ
mode_number blank = 0
mode_number whole = 1
mode_number split = 2
mode_number joining = 3
mode_number closing = 4

abbrev pub is : Mode → Mode → Bool
is k m = eqb (mode_number m) (mode_number k)

-- a join is under way
abbrev pub active : Mode → Bool
active m = is joining m || is closing m

abbrev pub fate_number : Fate → ℕ
fate_number unsent = 1
fate_number waiting = 2
fate_number accepted = 3
fate_number revoked = 4

abbrev pub fate_is : Fate → Fate → Bool
fate_is k f = eqb (fate_number f) (fate_number k)

abbrev pub is_unsent : Kept → Bool
is_unsent k = fate_is unsent k.fate

abbrev pub is_waiting : Kept → Bool
is_waiting k = fate_is waiting k.fate

abbrev pub is_revoked : Kept → Bool
is_revoked k = fate_is revoked k.fate

abbrev pub is_open : Kept → Bool
is_open k = is_unsent k || is_waiting k

abbrev pub is_settled : Kept → Bool
is_settled k = not (is_open k)

-- ---- values and rules

abbrev pub in_range : ℤ → Bool
in_range v = within (neg value_limit) (pos value_limit) v

unfoldable pub value : List ℤ → ℕ → ℤ
value vs m = nth (pos 0) vs m

-- the one test of a rule
unfoldable pub rule_holds : List ℤ → Rule → Bool
unfolding value
rule_holds vs r = lt_z (value vs r.lower +ℤ r.gap) (value vs r.upper)

unfoldable pub holds : List Rule → List ℤ → Bool
holds rs vs = all (rule_holds vs) rs

unfoldable pub names : ℕ → Rule → Bool
names m r = eqb r.lower m || eqb r.upper m

unfoldable pub firmly_named : List Rule → ℕ → Bool
unfolding names
firmly_named rs m = any (λ r. r.firm && names m r) rs

-- ---- changes

unfoldable pub kind_of : ℕ → Kind
kind_of n = cond (eqb n 1) assign (cond (eqb n 2) add (cond (eqb n 3) multiply (cond (eqb n 4) divide unknown)))

unfoldable pub is_factor : ℤ → Bool
is_factor k = within (neg factor_limit) (neg 1) k || within (pos 1) (pos factor_limit) k

abbrev allowed_to : Kind → ℤ → Bool
allowed_to assign k = in_range k
allowed_to add k = in_range k
allowed_to multiply k = is_factor k
allowed_to divide k = is_factor k
allowed_to unknown k = false

-- a kind, with a constant that it takes
unfoldable pub allowed : Change → Bool
allowed ch = allowed_to ch.kind ch.constant

abbrev applied_to : Kind → ℤ → ℤ → ℤ
applied_to assign k v = k
applied_to add k v = v +ℤ k
applied_to multiply k v = v *ℤ k
applied_to divide k v = quot_z v k
applied_to unknown k v = v

-- the value that a change makes of a value; a division drops the fraction towards zero
unfoldable pub applied : Change → ℤ → ℤ
applied ch v = applied_to ch.kind ch.constant v

-- the values with a change made on measure m
unfoldable pub made : ℕ → Change → List ℤ → List ℤ
unfolding applied
made m ch vs = modify m (applied ch) vs

unfoldable pub fits : ℕ → Change → List ℤ → Bool
unfolding value applied
fits m ch vs = in_range (applied ch (value vs m))

-- A change takes effect only if the result is in range and every rule, soft and firm, holds afterwards.
unfoldable pub effective : List Rule → ℕ → Change → List ℤ → Bool
unfolding fits made holds
effective rs m ch vs = fits m ch vs && holds rs (made m ch vs)

-- ---- looking up

abbrev pub absent_side : Side
absent_side = record { values = []; arrived = false; confirmed = false }

abbrev pub side_at : Content → ℕ → Side
side_at d s = nth absent_side d.sides s

-- what a number stands for that no kept edit has: no client's, never replied to, never waiting
abbrev pub absent_edit : Kept
absent_edit = record {
  edit = record { number = 0; side = 0; client = 0; earlier = 0; measure = 0; change = record { kind = assign; constant = pos 0 } };
  fate = unsent;
  replied = false;
  place = 0;
}

-- the kept edit numbered n
abbrev pub lookup : ℕ → List Kept → Kept
lookup n [] = absent_edit
lookup n (k ∷ ks) = cond (eqb n k.edit.number) k (lookup n ks)

abbrev pub unsent_of : ℕ → List Kept → ℕ
unsent_of s ks = count (λ k. is_unsent k && eqb k.edit.side s) ks

-- a side whose first log has not arrived or that has unsent edits
abbrev pub pending : Content → ℕ → Bool
pending d s = not (side_at d s).arrived || ltb 0 (unsent_of s d.kept)

-- how many sides pass a test of their number
abbrev pub sides_that : (ℕ → Bool) → Content → ℕ
sides_that f d = count_to f (length d.sides)
