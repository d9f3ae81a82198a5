-- Believed: which call of the definitions a call of the code is, and the number of each refusal on the agreed list. Assumes nothing.
use Rattle.std.specs.Prelude.{ℕ, Result, Ok, Err}
use Rattle.protocol.specs.Plan.{measure_limit}
use Rattle.protocol.specs.Calls as model
use Rattle.protocol.specs.declared.call.Call.{Call}
use Rattle.protocol.specs.declared.call.Call.TheVariants.{Measure, Rule, Open, Split, Edit, Join, Send, Replay, Stop, Confirm, Install, Show, Fate, Left}
use Rattle.protocol.specs.declared.refusal.Refusal.{Refusal}
use Rattle.protocol.specs.declared.refusal.Refusal.TheVariants.{ValueOutOfRange, TooManyMeasures, TooManyRules, NoPairOfMeasures, RuleOutOfRange, NoMeasures, RuleUnmet, NoSuchSide, NoSuchClient, NoSuchMeasure, NoSuchChange, NoSuchEarlier, Frozen, TooManyEdits, ResultOutOfRange, RuleBroken, NoNumberLeft, WrongMode, TooManySides, NothingToSend, LogMissing, NotWaiting, EarlierWaits, EditsWait, EditsUnsent, ConfirmedBefore, Unconfirmed, NoRoom, WrongSize, WrongSum, WrongChains, Unreadable, TooLong}

-- a sheet's show always has room for every measure
abbrev pub asked : Call → model.Call
asked (Measure v) = model.measure v
asked (Rule r) = model.rule r.lower r.gap r.upper r.firm
asked Open = model.open_plan
asked (Split s) = model.split-side s
asked (Edit e) = model.edit e.side e.client e.after e.measure e.kind e.constant
asked Join = model.join
asked (Send s) = model.send s
asked (Replay n) = model.replay n
asked Stop = model.stop
asked (Confirm s) = model.confirm s
asked Install = model.install
asked (Show s) = model.show s measure_limit
asked (Fate n) = model.fate_of_edit n
asked Left = model.left

abbrev pub number_of : Refusal → ℕ
number_of ValueOutOfRange = 11
number_of TooManyMeasures = 12
number_of TooManyRules = 13
number_of NoPairOfMeasures = 14
number_of RuleOutOfRange = 15
number_of NoMeasures = 16
number_of RuleUnmet = 17
number_of NoSuchSide = 21
number_of NoSuchClient = 22
number_of NoSuchMeasure = 23
number_of NoSuchChange = 24
number_of NoSuchEarlier = 25
number_of Frozen = 26
number_of TooManyEdits = 27
number_of ResultOutOfRange = 28
number_of (RuleBroken rule) = 29
number_of NoNumberLeft = 30
number_of WrongMode = 31
number_of TooManySides = 32
number_of NothingToSend = 33
number_of LogMissing = 34
number_of NotWaiting = 35
number_of EarlierWaits = 36
number_of EditsWait = 37
number_of EditsUnsent = 38
number_of ConfirmedBefore = 39
number_of Unconfirmed = 40
number_of NoRoom = 41
number_of WrongSize = 44
number_of WrongSum = 45
number_of WrongChains = 46
number_of Unreadable = 51
number_of TooLong = 52

-- what a test that may refuse found
abbrev pub verdict_of : {A : Type 0} → Result A Refusal → model.Verdict
verdict_of (Ok a) = model.fine
verdict_of (Err r) = model.refused (number_of r)
