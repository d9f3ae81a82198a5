-- Computed: the trials P1 to P12 (01, "Trials at the edges"), the wrong joins (01, "Wrong joins that look plausible") and those of 02's requests as rows of one table. Assumes nothing.
use Rattle.std.specs.Prelude.{ℕ, ◌+◌, ◌-◌, ◌≡◌, refl, List, [], ◌∷◌, ◌++◌, map, ℤ, pos, length, drop}
use Rattle.protocol.specs.Lists.{neg, within}
use Rattle.protocol.specs.Plan.{Rule, Plan, value, rule_holds, holds, names, firmly_named, kind_of, is_factor, allowed, applied, made, fits, effective}
use Rattle.protocol.specs.Broken.{first_broken, broken_rule}
use Rattle.protocol.specs.Calls.{Call, measure, rule, open_plan, split-side, edit, join, send, replay, stop, confirm, install, show, fate_of_edit, left, Answer, no, ok, rule_of, checks, further, replayable, after, gives, left_in, step, start}
use Rattle.protocol.specs.History.{History, empty, entered, recorded, closed, budget}

-- ---- a row: calls made from a blank plan, and the answers to the last of them

pub record Row : Type 0 where
  pub calls : List Call
  pub last : List Answer

unfoldable pub answers : List Call → Plan → List Answer
unfolding step
answers [] p = []
answers (c ∷ cs) p = let r = step c p in r.answer ∷ answers cs r.plan

unfoldable pub found : Row → List Answer
unfolding answers
found r = drop (length r.calls - length r.last) (answers r.calls start)

-- ---- the sheet of document 01

abbrev done : Answer
done = ok []

abbrev gave : ℕ → Answer
gave n = ok (pos n ∷ [])

abbrev pair_of : ℕ → ℕ → Answer
pair_of a b = ok (pos a ∷ pos b ∷ [])

abbrev draw : ℕ → Call
draw n = measure (pos n)

abbrev draw_rule : ℕ → ℕ → ℕ → ℕ → Call
draw_rule a c b f = rule (pos a) (pos c) (pos b) (pos f)

abbrev change : ℕ → ℕ → ℕ → ℕ → ℕ → ℕ → Call
change s client n m kind k = edit (pos s) (pos client) (pos n) (pos m) (pos kind) (pos k)

abbrev split_off : ℕ → Call
split_off s = split-side (pos s)

abbrev sends : ℕ → Call
sends s = send (pos s)

abbrev replays : ℕ → Call
replays n = replay (pos n)

abbrev confirms : ℕ → Call
confirms s = confirm (pos s)

abbrev shows : ℕ → ℕ → Call
shows s room = show (pos s) room

abbrev asks : ℕ → Call
asks n = fate_of_edit (pos n)

-- to its open ("the pair"), with rule 1 soft (0) or firm (1)
abbrev pair : ℕ → List Call
pair f = draw 3 ∷ draw 12 ∷ draw_rule 1 1 2 f ∷ open_plan ∷ []

-- to its second edit
abbrev parted : List Call
parted = pair 0 ++ (split_off 1 ∷ change 1 5 0 1 2 1 ∷ change 2 6 0 1 3 3 ∷ [])

-- to its join
abbrev joined : List Call
joined = parted ++ (join ∷ [])

-- to its stop
abbrev stopped : List Call
stopped = joined ++ (change 1 5 1 1 2 3 ∷ sends 1 ∷ sends 2 ∷ replays 1 ∷ replays 2 ∷ replays 3 ∷ stop ∷ [])

abbrev sheet : List Call
sheet = stopped ++ (confirms 1 ∷ confirms 2 ∷ install ∷ shows 1 2 ∷ [])

abbrev sheet_answers : List Answer
sheet_answers =
    gave 1 ∷ gave 2 ∷ gave 1 ∷ done ∷ gave 2 ∷ gave 1 ∷ gave 2 ∷ done ∷ gave 3 ∷ gave 2 ∷ gave 1 ∷ gave 3 ∷ gave 4 ∷ gave 3
    ∷ done ∷ done ∷ done ∷ done ∷ pair_of 7 12 ∷ []

-- both sides have sent nothing, then side 1 takes an edit
abbrev late_edit : List Call
late_edit = pair 0 ++ (split_off 1 ∷ join ∷ sends 1 ∷ sends 2 ∷ change 1 1 0 1 2 1 ∷ [])

-- edits 3 and 4 are built on edit 2 and on one another, edit 5 on edit 1; edit 1 is accepted, edit 2 revoked
abbrev built : List Call
built = parted ++ (change 2 6 2 2 2 5 ∷ change 2 6 3 2 2 5 ∷ change 1 5 1 2 2 1 ∷ join ∷ sends 1 ∷ sends 2 ∷ replays 1 ∷ replays 2 ∷ [])

-- ---- the table

pub table : List Row
table =
    -- P1
    record { calls = sheet; last = sheet_answers }
    -- P2
    ∷ record { calls = draw 1_000_000 ∷ draw 1_000_001 ∷ []; last = gave 1 ∷ no 11 ∷ [] }
    -- P3
    ∷ record { calls = draw 3 ∷ draw_rule 1 0 1 0 ∷ []; last = no 14 ∷ [] }
    -- P4
    ∷ record {
      calls = measure (neg 7) ∷ draw 7 ∷ open_plan ∷ change 1 1 0 1 4 2 ∷ edit (pos 1) (pos 1) (pos 0) (pos 2) (pos 4) (neg 2) ∷ shows 1 2 ∷ [];
      last = ok (neg 3 ∷ neg 3 ∷ []) ∷ [];
    }
    -- P5
    ∷ record { calls = pair 0 ++ (change 1 1 0 1 1 10 ∷ change 1 1 0 1 1 11 ∷ []); last = gave 1 ∷ no 29 ∷ [] }
    -- P6
    ∷ record { calls = pair 1 ++ (split_off 1 ∷ change 1 1 0 1 1 2 ∷ []); last = no 26 ∷ [] }
    -- P7
    ∷ record { calls = joined ++ (change 1 6 1 1 2 3 ∷ []); last = no 25 ∷ [] }
    -- P8
    ∷ record {
      calls = pair 0 ++ (split_off 1 ∷ change 1 5 0 1 2 1 ∷ change 1 5 1 1 2 1 ∷ join ∷ sends 1 ∷ sends 2 ∷ replays 2 ∷ []);
      last = no 36 ∷ [];
    }
    -- P9
    ∷ record { calls = pair 0 ++ (split_off 1 ∷ join ∷ sends 1 ∷ sends 1 ∷ []); last = gave 0 ∷ no 33 ∷ [] }
    -- P10
    ∷ record { calls = joined ++ (stop ∷ sends 1 ∷ sends 2 ∷ stop ∷ []); last = no 34 ∷ gave 1 ∷ gave 1 ∷ no 37 ∷ [] }
    -- P11
    ∷ record {
      calls = late_edit ++ (stop ∷ confirms 1 ∷ sends 1 ∷ confirms 1 ∷ confirms 2 ∷ install ∷ replays 1 ∷ install ∷ []);
      last = no 38 ∷ gave 1 ∷ done ∷ done ∷ no 37 ∷ gave 3 ∷ done ∷ [];
    }
    -- P12
    ∷ record { calls = joined ++ (left ∷ change 1 5 1 1 2 3 ∷ left ∷ []); last = gave 8 ∷ gave 3 ∷ gave 9 ∷ [] }
    -- W1, kept edits are not copied: of three sides only the first has an edit to send
    ∷ record {
      calls = pair 0 ++ (split_off 1 ∷ change 1 5 0 1 2 1 ∷ split_off 1 ∷ join ∷ left ∷ sends 1 ∷ sends 3 ∷ []);
      last = gave 9 ∷ gave 1 ∷ gave 0 ∷ [];
    }
    -- W2, an edit is tested against its side: 1 more is too much there, though not for the draft
    ∷ record { calls = pair 0 ++ (split_off 1 ∷ change 1 5 0 1 2 7 ∷ join ∷ change 1 5 0 1 2 1 ∷ []); last = gave 1 ∷ done ∷ no 29 ∷ [] }
    -- W3, a side that took no edits can be waited for: it sends an empty log, and then stop is accepted
    ∷ record { calls = pair 0 ++ (split_off 1 ∷ join ∷ stop ∷ sends 1 ∷ sends 2 ∷ stop ∷ []); last = no 34 ∷ gave 0 ∷ gave 0 ∷ done ∷ [] }
    -- W4, stop drops nothing: the unsent edit is sent and replayed afterwards
    ∷ record { calls = late_edit ++ (stop ∷ left ∷ sends 1 ∷ replays 1 ∷ asks 1 ∷ left ∷ []); last = gave 5 ∷ gave 1 ∷ gave 3 ∷ pair_of 3 1 ∷ gave 3 ∷ [] }
    -- W5, every rule is tested: the last measure's too
    ∷ record {
      calls = draw 1 ∷ draw 2 ∷ draw 3 ∷ draw_rule 1 0 2 0 ∷ draw_rule 2 0 3 0 ∷ open_plan ∷ change 1 1 0 3 1 2 ∷ change 1 1 0 3 1 4 ∷ [];
      last = no 29 ∷ gave 1 ∷ [];
    }
    -- S-2, an edit built on a revoked one is revoked, though 12 + 5 would do: it takes a place and a step, and the draft stays
    ∷ record {
      calls = built ++ (left ∷ replays 3 ∷ left ∷ asks 3 ∷ []);
      last = gave 3 ∷ gave 4 ∷ gave 7 ∷ gave 4 ∷ gave 6 ∷ pair_of 4 3 ∷ [];
    }
    -- a chain of three: the third is revoked for the second, which was revoked for the first; what is built on an accepted edit is tested
    ∷ record {
      calls = built ++ (replays 4 ∷ replays 3 ∷ replays 4 ∷ replays 5 ∷ asks 4 ∷ asks 5 ∷ stop ∷ confirms 1 ∷ confirms 2 ∷ install ∷ shows 1 2 ∷ []);
      last = no 36 ∷ gave 4 ∷ gave 4 ∷ gave 3 ∷ pair_of 4 4 ∷ pair_of 3 5 ∷ done ∷ done ∷ done ∷ done ∷ pair_of 4 13 ∷ [];
    }
    -- it acts at replay alone: a revoked edit may be named, while joining and while whole
    ∷ record {
      calls = built ++ (change 2 6 2 2 2 5 ∷ sends 2 ∷ replays 6 ∷ replays 3 ∷ replays 4 ∷ replays 5 ∷ stop ∷ confirms 1 ∷ confirms 2 ∷ install ∷ change 1 6 6 2 2 5 ∷ shows 1 2 ∷ []);
      last = gave 6 ∷ gave 1 ∷ gave 4 ∷ gave 4 ∷ gave 4 ∷ gave 3 ∷ done ∷ done ∷ done ∷ done ∷ gave 7 ∷ pair_of 4 18 ∷ [];
    }
    -- the sheet's number left, fates and places to its end
    ∷ record {
      calls = stopped ++ (left ∷ asks 1 ∷ asks 2 ∷ asks 3 ∷ asks 4 ∷ confirms 1 ∷ left ∷ confirms 2 ∷ left ∷ install ∷ left ∷ asks 3 ∷ []);
      last =
          gave 3 ∷ pair_of 3 1 ∷ pair_of 4 2 ∷ pair_of 3 3 ∷ pair_of 0 0 ∷ done ∷ gave 2 ∷ done ∷ gave 1 ∷ done ∷ gave 0 ∷ pair_of 3 3 ∷ [];
    }
    -- numbers that can mean nothing: each is refused by its own case, in order
    ∷ record {
      calls = pair 0 ++ (edit (neg 1) (neg 5) (neg 1) (neg 1) (neg 1) (pos 1) ∷ edit (pos 1) (pos 1000) (neg 1) (neg 1) (neg 1) (pos 1)
          ∷ edit (pos 1) (pos 999) (neg 1) (neg 1) (neg 1) (pos 1) ∷ edit (pos 1) (pos 999) (neg 1) (pos 1) (neg 1) (pos 1)
          ∷ edit (pos 1) (pos 999) (neg 1) (pos 1) (pos 1) (pos 1) ∷ split-side (neg 1) ∷ asks 1 ∷ fate_of_edit (neg 1) ∷ show (neg 1) 2 ∷ shows 1 1 ∷ []);
      last = no 21 ∷ no 22 ∷ no 23 ∷ no 24 ∷ no 25 ∷ no 21 ∷ pair_of 0 0 ∷ pair_of 0 0 ∷ no 21 ∷ no 41 ∷ [];
    }
    ∷ []

pub trials : map found table ≡ map (λ r. r.last) table
unfolding table found answers step checks further after gives within value rule_holds holds names firmly_named kind_of is_factor allowed applied made fits effective replayable
trials = refl

-- ---- which rule is broken (02, S-3)

-- four rules; and measures that break none, each of them alone, the first two, the second and the third, all but the first
abbrev crossed : List Rule
crossed = rule_of (pos 1) (pos 0) (pos 2) (pos 0) ∷ rule_of (pos 1) (pos 10) (pos 3) (pos 0) ∷ rule_of (pos 2) (neg 5) (pos 3) (pos 1) ∷ rule_of (pos 3) (pos 0) (pos 4) (pos 0) ∷ []

abbrev measures : ℕ → ℕ → ℕ → ℕ → List ℤ
measures a b c d = pos a ∷ pos b ∷ pos c ∷ pos d ∷ []

pub broken-rules : map (broken_rule crossed)
    (measures 0 10 20 30 ∷ measures 9 9 20 30 ∷ measures 15 20 20 30 ∷ measures 0 25 20 30 ∷ measures 0 10 30 30 ∷ measures 20 15 20 30 ∷ measures 15 25 20 30 ∷ measures 5 30 5 5 ∷ [])
    ≡ 0 ∷ 1 ∷ 2 ∷ 3 ∷ 4 ∷ 2 ∷ 3 ∷ 4 ∷ []
unfolding broken_rule first_broken rule_holds value
broken-rules = refl

-- ---- the history beside the plan

-- after each call, the history's budget, and what the number left and the closing moves so far come to
unfoldable pub budgets : List Call → Plan → History → List (ℕ × ℕ)
unfolding step entered
budgets [] p h = []
budgets (c ∷ cs) p h =
    let r = step c p in
    let g = recorded c r.answer h in
    (budget g, left_in r.plan + closed g) ∷ budgets cs r.plan g

-- From the join to the last confirm: a late edit raises both by two, and no closing move changes them.
pub balance :
    drop 5 (budgets (late_edit ++ (stop ∷ sends 1 ∷ replays 1 ∷ confirms 1 ∷ confirms 2 ∷ [])) start empty)
    ≡ (6, 6) ∷ (6, 6) ∷ (6, 6) ∷ (8, 8) ∷ (8, 8) ∷ (8, 8) ∷ (8, 8) ∷ (8, 8) ∷ (8, 8) ∷ []
unfolding budgets step checks further after gives entered within value rule_holds holds names firmly_named kind_of is_factor allowed applied made fits effective replayable
balance = refl
