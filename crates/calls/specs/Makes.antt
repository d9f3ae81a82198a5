-- Scaffolding: what every call promises, made on a plan and on what its owner keeps beside it: where that is true, the answer and the plan are the protocol's, what is
-- kept stays true, and a refusal leaves the plan as it was. Assumes nothing.
use Rattle.std.specs.Prelude.{ℕ, min, ◌≡◌, Bool, true, false, not, ◌&&◌, List, [], get_or, ℤ, Option, Some, None, IsSome, is_some}
use Rattle.protocol.specs.Lists.{natural}
use Rattle.protocol.specs.Plan.{rule_limit}
use Rattle.protocol.specs.Asked.{asked}
use Rattle.protocol.specs.declared.call.Call.{Call}
use Rattle.protocol.specs.declared.call.Call.TheVariants.{Measure, Rule, Open, Split, Edit, Join, Send, Replay, Stop, Confirm, Install, Show, Fate, Left}
use Rattle.guarantee.specs.Holding.{Holding}
use Rattle.format.specs.Sheets.{step_of}
use Rattle.rows.specs.Rows.{row}
use Rattle.rules.specs.declared.Index.{Index}
use Rattle.rules.specs.Index.{IndexedIfSome}
use Rattle.heads.specs.declared.Head.{Head}
use Rattle.heads.specs.Heads.{index_of, offset_of, measures_in}
use Rattle.state.specs.declared.State.{State}
use Rattle.state.specs.Spread.{Spread, spread, plan_of}
use Rattle.state.specs.View.{view}
use Rattle.state.specs.Meets.{Answer, answer_of, IfRefused, Makes, SameRules}
use Rattle.counts.specs.Tallies.{Tallied, noted}
use Rattle.reader.specs.Reads.{called}
use Rattle.writer.specs.Writes.{with_row}
use Rattle.calls.specs.declared.Beside.{Beside}
use Rattle.calls.specs.declared.Told.{Told}

-- ---- what the owner keeps is true

-- where it says so, every rule holds
abbrev pub SoundIn : Bool → Spread → Type 0
SoundIn b p = b ≡ true → Holding (plan_of p).mode (plan_of p).content

-- an index that was made is that of the plan's rules
abbrev pub ReadyIn : Spread → Option Index → Type 0
ReadyIn p index = IndexedIfSome index p.lower p.gap p.upper p.firm (min p.head.rules rule_limit)

-- of a plan: its counts, the index, and that every rule holds
pub record Kept (b : Beside) (p : State) : Type 0 where
  pub tallied : Tallied b.counts (view p)
  pub held : SoundIn b.sound (spread p)
  pub indexed : ReadyIn (spread p) b.index

abbrev pub is_edit : Call → Bool
is_edit (Measure v) = false
is_edit (Rule r) = false
is_edit Open = false
is_edit (Split s) = false
is_edit (Edit e) = true
is_edit Join = false
is_edit (Send s) = false
is_edit (Replay n) = false
is_edit Stop = false
is_edit (Confirm s) = false
is_edit Install = false
is_edit (Show s) = false
is_edit (Fate n) = false
is_edit Left = false

abbrev pub is_show : Call → Bool
is_show (Measure v) = false
is_show (Rule r) = false
is_show Open = false
is_show (Split s) = false
is_show (Edit e) = false
is_show Join = false
is_show (Send s) = false
is_show (Replay n) = false
is_show Stop = false
is_show (Confirm s) = false
is_show Install = false
is_show (Show s) = true
is_show (Fate n) = false
is_show Left = false

-- measure, rule, open
abbrev pub is_draw : Call → Bool
is_draw (Measure v) = true
is_draw (Rule r) = true
is_draw Open = true
is_draw (Split s) = false
is_draw (Edit e) = false
is_draw Join = false
is_draw (Send s) = false
is_draw (Replay n) = false
is_draw Stop = false
is_draw (Confirm s) = false
is_draw Install = false
is_draw (Show s) = false
is_draw (Fate n) = false
is_draw Left = false

-- what a call needs of it: an edit needs no counts
pub record Known (c : Call) (b : Beside) (p : State) : Type 0 where
  pub tallied : is_edit c ≡ false → Tallied b.counts (view p)
  pub held : SoundIn b.sound (spread p)
  pub indexed : b.sound ≡ true → ReadyIn (spread p) b.index

abbrev pub KnownIf : Option Call → Beside → State → Type 0
KnownIf None b p = Unit {0}
KnownIf (Some c) b p = Known c b p

-- ---- what a call promises

-- the values that are told besides
abbrev pub row_told : State → Option ℕ → List ℤ
row_told p None = []
row_told p (Some s) = row p.values (offset_of s) (measures_in p.head)

-- a line that has them told
abbrev pub asks_show : Option Call → Bool
asks_show None = false
asks_show (Some c) = is_show c

-- edit and replay ask the index
abbrev pub asks_index : Call → Bool
asks_index (Measure v) = false
asks_index (Rule r) = false
asks_index Open = false
asks_index (Split s) = false
asks_index (Edit e) = true
asks_index Join = false
asks_index (Send s) = false
asks_index (Replay n) = true
asks_index Stop = false
asks_index (Confirm s) = false
asks_index Install = false
asks_index (Show s) = false
asks_index (Fate n) = false
asks_index Left = false

-- it is asked, and none was made yet
abbrev pub lacks_index : Beside → Bool
lacks_index b = b.sound && not (is_some b.index)

-- for this call an index is made
abbrev pub makes_index : Option Call → Beside → Bool
makes_index None b = false
makes_index (Some c) b = asks_index c && lacks_index b

-- from one plan and what is kept beside it to the next, with what is told
pub record Made (c : Option Call) (p : State) (b : Beside) (r : Told) (q : State) (b' : Beside) : Type 0 where
  pub answer : with_row (answer_of r.answer) (row_told q r.shown) ≡ (step_of (called c) (view p)).answer
  pub plan : view q ≡ (step_of (called c) (view p)).plan
  pub bare : asks_show c ≡ false → r.shown ≡ None
  pub same : IfRefused r.answer (q ≡ p)
  pub tallied : Tallied b.counts (view p) → Tallied b'.counts (view q)
  pub indexed : ReadyIn (spread p) b.index → ReadyIn (spread q) b'.index
  pub sound : b'.sound ≡ b.sound
  pub uncounted : IfRefused r.answer (b'.counts ≡ b.counts)
  pub stays : IfRefused r.answer (makes_index c b ≡ false → b' ≡ b)

-- ---- on the way

-- the index is made anew: it is the rules' own
pub record Remade (p : State) (b b' : Beside) : Type 0 where
  pub counts : b'.counts ≡ b.counts
  pub sound : b'.sound ≡ b.sound
  pub some : IsSome b'.index
  pub own : ReadyIn (spread p) b'.index

-- the index is the rules' own, where it was not another's before, and made where it is asked and there is none; else all stays
pub record Readied (p : State) (b b' : Beside) : Type 0 where
  pub counts : b'.counts ≡ b.counts
  pub sound : b'.sound ≡ b.sound
  pub asked : b.sound ≡ true → IsSome b'.index
  pub still : ReadyIn (spread p) b.index → ReadyIn (spread p) b'.index
  pub stays : lacks_index b ≡ false → b' ≡ b

-- a call is made, and the counts are those of before
pub record Changes (c : Call) (p : State) (b : Beside) (a : Answer) (q : State) (b' : Beside) : Type 0 where
  pub makes : Makes (asked c) p a q
  pub rules : is_draw c ≡ false → SameRules p q
  pub counts : b'.counts ≡ b.counts
  pub sound : b'.sound ≡ b.sound
  pub indexed : ReadyIn (spread p) b.index → ReadyIn (spread p) b'.index
  pub stays : makes_index (Some c) b ≡ false → b' ≡ b

-- whether the first log of the side that an edit or a send names is there
abbrev pub log_before : State → Call → Bool
log_before p (Measure v) = false
log_before p (Rule r) = false
log_before p Open = false
log_before p (Split s) = false
log_before p (Edit e) = get_or p.arrived (index_of (natural e.side)) false
log_before p Join = false
log_before p (Send s) = get_or p.arrived (index_of (natural s)) false
log_before p (Replay n) = false
log_before p Stop = false
log_before p (Confirm s) = false
log_before p Install = false
log_before p (Show s) = false
log_before p (Fate n) = false
log_before p Left = false

-- an accepted call noted: the counts, and that the index is no longer the rules' after a drawing
pub record Noted (c : Call) (h : Head) (arrived : Bool) (b b' : Beside) : Type 0 where
  pub counts : b'.counts ≡ noted c h arrived b.counts
  pub sound : b'.sound ≡ b.sound
  pub stale : is_draw c ≡ true → b'.index ≡ None
  pub index : is_draw c ≡ false → b'.index ≡ b.index

-- a sheet's show: the plan stays
abbrev pub Shows : State → ℤ → Told → Type 0
Shows p s r = with_row (answer_of r.answer) (row_told p r.shown) ≡ (step_of (called (Some (Show s))) (view p)).answer
