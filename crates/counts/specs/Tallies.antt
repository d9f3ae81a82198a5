-- Scaffolding: counts of the kept edits, the number left and the first logs that are missing, and how the calls move them. Assumes nothing.
use Rattle.std.specs.Prelude.{ℕ, suc, ◌+◌, ◌*◌, ◌-◌, ◌<◌, ◌≤◌, min, ◌≡◌, Bool, not, cond, ◌&&◌, List, T, length, get_or, set, replicate}
use Rattle.protocol.specs.Lists.{bit, is_none, count, natural}
use Rattle.protocol.specs.Plan.{Kept, is_waiting, is_settled, Plan, whole, is, active, side_at, unsent_of, sides_that, side_limit, kept_limit}
use Rattle.protocol.specs.Calls.{left_of}
use Rattle.protocol.specs.Sizes.{last_edit}
use Rattle.protocol.specs.declared.call.Call.{Call}
use Rattle.protocol.specs.declared.call.Call.TheVariants.{Measure, Rule, Open, Split, Edit, Join, Send, Replay, Stop, Confirm, Install, Show, Fate, Left}
use Rattle.heads.specs.declared.Head.{Head}
use Rattle.heads.specs.Heads.{mode_of, sides_in, kept_in, index_of}
use Rattle.counts.specs.declared.Tallies.{Tallies}

-- ---- the counts: for each side how many are unsent, by its index, then four more

abbrev pub unsent_in : Tallies → ℕ → ℕ
unsent_in t s = get_or t.unsent (index_of s) 0

-- what the counts say of the kept edits
pub record Counted (t : Tallies) (ks : List Kept) : Type 0 where
  pub unsent : (s : ℕ) → 0 < s → s ≤ side_limit → unsent_in t s ≡ unsent_of s ks
  pub waiting : t.waiting ≡ count is_waiting ks
  pub settled : t.settled ≡ count is_settled ks

-- and of a plan
pub record Tallied (t : Tallies) (p : Plan) : Type 0 where
  pub long : length t.unsent ≡ side_limit
  pub counted : Counted t p.content.kept
  pub left : T (active p.mode) → t.left ≡ left_of p.mode p.content
  pub missing : T (active p.mode) → t.missing ≡ sides_that (λ s. not (side_at p.content s).arrived) p.content

-- ---- how the calls move them

abbrev pub no_tallies : Tallies
no_tallies = record { unsent = replicate side_limit 0; waiting = 0; settled = 0; left = 0; missing = 0 }

-- No count of edits passes 256, and no number left this one (twice 8 sides, 256 edits, and 2), so that nothing overflows whatever the counts are.
abbrev pub most_left : ℕ
most_left = 274

-- what an edit adds to the number left: one, and one more where its side had nothing to send
abbrev pub raise : Bool → ℕ → ℕ
raise arrived unsent = suc (bit (arrived && is_none unsent))

-- one edit more of a side; arrived says that the side's first log is there
abbrev pub one_unsent : ℕ → Bool → Tallies → Tallies
one_unsent s arrived t =
    record t {
      unsent = set t.unsent (index_of s) (min (unsent_in t s) last_edit + 1);
      left = min t.left most_left + raise arrived (unsent_in t s);
    }

-- arrived says that the side's first log was there before
abbrev pub all_sent : ℕ → Bool → Tallies → Tallies
all_sent s arrived t =
    record t {
      unsent = set t.unsent (index_of s) 0;
      waiting = min t.waiting kept_limit + min (unsent_in t s) kept_limit;
      left = t.left - 1;
      missing = cond arrived t.missing (t.missing - 1);
    }

abbrev pub one_settled : Tallies → Tallies
one_settled t = record t { waiting = min t.waiting kept_limit - 1; settled = min t.settled last_edit + 1; left = t.left - 1 }

-- a join begins, with so many sides and kept edits
abbrev pub begun : ℕ → ℕ → Tallies → Tallies
begun sides kept t = record t { left = 2 * sides + (kept - t.settled) + 2; missing = sides }

abbrev pub one_less : Tallies → Tallies
one_less t = record t { left = t.left - 1 }

-- any call that is accepted: from the head before it, and whether the first log of the side that it names was there
abbrev pub noted : Call → Head → Bool → Tallies → Tallies
noted (Measure v) h arrived t = t
noted (Rule r) h arrived t = t
noted Open h arrived t = t
noted (Split s) h arrived t = cond (is whole (mode_of h.mode)) no_tallies t
noted (Edit e) h arrived t = cond (is whole (mode_of h.mode)) t (one_unsent (natural e.side) arrived t)
noted Join h arrived t = begun (sides_in h) (kept_in h) t
noted (Send s) h arrived t = all_sent (natural s) arrived t
noted (Replay n) h arrived t = one_settled t
noted Stop h arrived t = one_less t
noted (Confirm s) h arrived t = one_less t
noted Install h arrived t = one_less t
noted (Show s) h arrived t = t
noted (Fate n) h arrived t = t
noted Left h arrived t = t
