-- Every refusal that a call is given is on the agreed list (condition 1). Assumes nothing.
use mathlib.Core.Bool.{Bool}
use mathlib.Core.List.{List, [], ◌∷◌}
use lib.Dec.{T}
use Rattle.protocol.specs.Lists.{all}
use Rattle.protocol.specs.Plan.{Plan}
use Rattle.protocol.specs.Calls.{Call, measure, rule, open_plan, split-side, edit, join, send, replay, stop, confirm, install, show, fate_of_edit, left, Check, Verdict, fine, refused, first, further, checks, is_refusal, Answer, no, ok, step, step_by}
use Rattle.protocol.proofs.Laws.{cases, both}

abbrev checks_agreed : List Check → Bool
checks_agreed cs = all (λ c. is_refusal c.number) cs

-- of each call's checks, by their numbers alone
checks-agreed : (c : Call) (p : Plan) → T (checks_agreed (checks c p))
unfolding checks further
checks-agreed (measure v) p = tt
checks-agreed (rule a c b f) p = tt
checks-agreed open_plan p = tt
checks-agreed (split-side s) p = tt
checks-agreed (edit s client n m kind k) p = tt
checks-agreed join p = tt
checks-agreed (send s) p = tt
checks-agreed (replay n) p = tt
checks-agreed stop p = tt
checks-agreed (confirm s) p = tt
checks-agreed install p = tt
checks-agreed (show s room) p = tt
checks-agreed (fate_of_edit n) p = tt
checks-agreed left p = tt

-- a verdict that refuses does so with an agreed number
abbrev VerdictAgreed : Verdict → Type 0
VerdictAgreed fine = Unit {0}
VerdictAgreed (refused k) = T (is_refusal k)

first-agreed : (cs : List Check) → T (checks_agreed cs) → VerdictAgreed (first cs)
first-agreed [] t = tt
first-agreed (c ∷ cs) t =
    let b = both (is_refusal c.number) (checks_agreed cs) t in
    cases c.passes (λ e. rw e (first-agreed cs b.1)) (λ e. rw e b.0)

abbrev pub AnswerAgreed : Answer → Type 0
AnswerAgreed (no k) = T (is_refusal k)
AnswerAgreed (ok xs) = Unit {0}

pub answer-agreed : (c : Call) (p : Plan) → AnswerAgreed (step c p).answer
unfolding step
answer-agreed c p = by (first (checks c p)) (first-agreed (checks c p) (checks-agreed c p))
  where
    by : (v : Verdict) → VerdictAgreed v → AnswerAgreed (step_by v c p).answer
    by fine t = tt
    by (refused k) t = t
