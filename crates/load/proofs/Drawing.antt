-- A file drawn by the program, slot by slot, is drawn by the definition's calls. Assumes nothing.
use Rattle.load.proofs.Reading.{zero-words}
use Prim.Native.Nat.{ℕ, suc, ◌+◌, ◌-◌, ◌%◌, ◌/◌, ◌<◌}
use native.Mathlib.Omega.{arith}
use mathlib.Core.Path.{◌≡◌, refl, sym, ap, ap₂, subst, ◌∙◌}
use mathlib.Core.Logic.{◌≢◌}
use mathlib.Core.List.{List, [], ◌∷◌, ◌++◌, map, append_assoc}
use borrow.Author.Tests.{ltb-true, ltb-false, ne_eqb}
use lib.Dec.{ltb}
use mathlib.Core.Bool.{Bool, true, false}
use lib.IntN.{ℤ, pos}
use lib.ListN.{length}
use mir.Val.{bool_byte}
use Rattle.protocol.specs.Lists.{bit}
use Rattle.std.proofs.Common.{Ok, Err}
use Rattle.std.specs.Prelude.{OnOk}
use Rattle.protocol.specs.Asked.{number_of, verdict_of}
use Rattle.protocol.specs.Plan.{Plan}
use Rattle.protocol.specs.Calls.{Call, measure, rule, open_plan, Verdict, fine, refused, first, checks, step_by, step, following, end, no, ok}
use Rattle.protocol.specs.declared.refusal.Refusal.{Refusal}
use Rattle.protocol.proofs.Laws.{cases}
use Rattle.file.specs.Bytes.{two_at, four_at, signed, signed_at, firm_bit}
use Rattle.file.specs.Loaded.{slot_in, slots, next_in, value_in, rule_in, chain, first_slot, measure_chain, rule_chain, or_else, first_refusal, drawing}
use Rattle.slots.specs.declared.Kind.{Kind}
use Rattle.slots.specs.declared.Kind.TheVariants.{Measure, Rule}
use Rattle.slots.specs.declared.Slot.{Slot}
use Rattle.slots.specs.Words.{words_of, no_words, words_in, Parted}
use Rattle.slots.proofs.Parts.{next_part, second_part, lower_part, upper_part, mark_part_lem, slot-none}
use Rattle.state.specs.declared.State.{State}
use Rattle.state.specs.declared.Given.{Given}
use Rattle.state.specs.Meets.{Answer, answer_of, Makes}
use Rattle.state.specs.View.{view}
use Rattle.draw.specs.Draw.{LeavesRest}
use Rattle.load.specs.Drawing.{slot_call, slot_calls, chain_calls, Outcome, Drew}

-- ---- lists of calls

pub first-append : (cs ds : List Call) (p : Plan) → first_refusal (cs ++ ds) p ≡ or_else (first_refusal cs p) (first_refusal ds (end cs p))
unfolding first_refusal
first-append [] ds p = refl
first-append (c ∷ cs) ds p = ap (or_else (first (checks c p))) (first-append cs ds (following p c)) ∙ grouped (first (checks c p)) _ _
  where
    grouped : (a b c : Verdict) → or_else a (or_else b c) ≡ or_else (or_else a b) c
    grouped fine b c = refl
    grouped (refused k) b c = refl

pub end-append : (cs ds : List Call) (p : Plan) → end (cs ++ ds) p ≡ end ds (end cs p)
end-append [] ds p = refl
end-append (c ∷ cs) ds p = end-append cs ds (following p c)

-- ---- what drawing leaves

pub rest-same : (p : State) → LeavesRest p p
rest-same p = record { added = refl; kept = refl; mark = refl; based = refl; drafted = refl; base = refl; draft = refl; arrived = refl; confirmed = refl; edits = refl }

pub rest-then : {p q r : State} → LeavesRest p q → LeavesRest q r → LeavesRest p r
rest-then a b = record {
  added = b.added ∙ a.added;
  kept = b.kept ∙ a.kept;
  mark = b.mark ∙ a.mark;
  based = b.based ∙ a.based;
  drafted = b.drafted ∙ a.drafted;
  base = b.base ∙ a.base;
  draft = b.draft ∙ a.draft;
  arrived = b.arrived ∙ a.arrived;
  confirmed = b.confirmed ∙ a.confirmed;
  edits = b.edits ∙ a.edits;
}

-- ---- one call

-- the verdict on a call's checks, from its answer
answered : (c : Call) (p : Plan) (a : Answer) → answer_of a ≡ (step c p).answer → or_else (first (checks c p)) fine ≡ verdict_of a
unfolding step
answered c p a e = by (first (checks c p)) a e
  where
    by : (v : Verdict) (a : Answer) → answer_of a ≡ (step_by v c p).answer → or_else v fine ≡ verdict_of a
    by fine (Err r) e = let z : no (number_of r) ≡ ok _ = e in absurd (let y : ◌≡◌ {A = ℕ} 0 1 = cc in omega arith)
    by fine (Ok g) e = refl
    by (refused m) (Err r) e = let z : no (number_of r) ≡ no m = e in cc
    by (refused m) (Ok g) e = let z : ok _ ≡ no m = e in absurd (let y : ◌≡◌ {A = ℕ} 0 1 = cc in omega arith)

-- its plan, where it is accepted, is the step's
pub drew_refused : {c : Call} {p q : State} {r : Refusal} → Makes c p (Err r) q → LeavesRest p q → Drew (c ∷ []) p (Err r) q
unfolding first_refusal
drew_refused {c} {p} {r = r} m l = record { verdict = answered c (view p) (Err r) m.answer; plan = tt; rest = l }

pub drew_given : {c : Call} {p q : State} {g : Given} → Makes c p (Ok g) q → LeavesRest p q → Drew (c ∷ []) p (Ok tt) q
unfolding first_refusal
drew_given {c} {p} {g = g} m l = record { verdict = answered c (view p) (Ok g) m.answer; plan = m.plan; rest = l }

-- ---- one after the other

-- the same calls, said otherwise
pub same-calls : {cs ds : List Call} {r : Outcome} {p q : State} → cs ≡ ds → Drew cs p r q → Drew ds p r q
same-calls {r = r} {p} {q} e d = subst (λ cs. Drew cs p r q) e d

pub drew_then : (cs ds : List Call) {p q r : State} (o : Outcome) → Drew cs p (Ok tt) q → Drew ds q o r → Drew (cs ++ ds) p o r
drew_then cs ds {p} {q} {r} o a b = record {
  verdict = first-append cs ds (view p) ∙ ap₂ or_else a.verdict (ap (first_refusal ds) (sym a.plan)) ∙ b.verdict;
  plan = on o b.plan;
  rest = rest-then a.rest b.rest;
}
  where
    on : (o : Outcome) → OnOk o (view r ≡ end ds (view q)) → OnOk o (view r ≡ end (cs ++ ds) (view p))
    on (Ok u) e = e ∙ ap (end ds) a.plan ∙ sym (end-append cs ds (view p))
    on (Err r) e = tt

pub drew_stop : (cs ds : List Call) {p q : State} {r : Refusal} → Drew cs p (Err r) q → Drew (cs ++ ds) p (Err r) q
drew_stop cs ds {p} a = record {
  verdict = first-append cs ds (view p) ∙ ap (λ u. or_else u (first_refusal ds (end cs (view p)))) a.verdict;
  plan = tt;
  rest = a.rest;
}

-- ---- a chain

-- slot k of a file that has whole slots; one behind its end has no bytes
pub words_any : (f : List ℕ) (k : ℕ) (w : Slot) → length f % 16 ≡ 0 → w ≡ words_in f k → (k < slots f → Parted (slot_in f k)) → (w ≡ words_of (slot_in f k)) × Parted (slot_in f k)
unfolding four_at two_at
words_any f k w g e p = cases (ltb k (slots f))
    (λ t. (e ∙ rw t, p (ltb-true k (slots f) t)))
    (λ t.
    let n = slot-none f k g (ltb-false k (slots f) t) in
    (e ∙ rw (t, n) nothing, subst Parted (sym n) (record { next = none_two 0; mark = omega arith; lower = none_two 4; count = none_two 12 })))
  where
    nothing : no_words ≡ words_of []
    nothing = refl

    none_two : (i : ℕ) → two_at [] i < 65_536
    none_two i = omega arith

calls-append : (kind : Kind) (f : List ℕ) (ks js : List ℕ) → slot_calls kind f (ks ++ js) ≡ slot_calls kind f ks ++ slot_calls kind f js
calls-append kind f [] js = refl
calls-append kind f (k ∷ ks) js = ap {B = List Call} (λ cs. slot_call kind (slot_in f k) ∷ cs) (calls-append kind f ks js)

module _ (f : List ℕ) (kind : Kind) (start : ℕ) where
  -- where the drawing of a chain stands: the slots drawn, and those that are left
  pub record Along (p q : State) (k i : ℕ) : Type 0 where
    pub done : List ℕ
    pub parts : chain f (slots f) start ≡ done ++ chain f (slots f - i) k
    pub drew : Drew (slot_calls kind f done) p (Ok tt) q

  pub along_begin : (p : State) → Along p p start 0
  unfolding first_refusal
  along_begin p =
      let n : slots f ≡ slots f - 0 = omega arith in
      record { done = []; parts = ap (λ m. chain f m start) n; drew = record { verdict = refl; plan = refl; rest = rest-same p } }

  module _ {p q : State} {k i : ℕ} (a : Along p q k i) (ne : k ≢ 0) (h : i < slots f) where
    next-slot : chain f (slots f - i) k ≡ k ∷ chain f (slots f - (i + 1)) (next_in (slot_in f k))
    next-slot = let m : slots f - i ≡ suc (slots f - (i + 1)) = omega arith in ap (λ j. chain f j k) m ∙ rw (ne_eqb k 0 ne)

    -- one more slot
    pub along_on : {r : State} → Drew (slot_call kind (slot_in f k) ∷ []) q (Ok tt) r → (w : Slot) → w ≡ words_of (slot_in f k) → Parted (slot_in f k) → {n : ℕ} → n ≡ w.first % 65_536 → Along p r n (i + 1)
    along_on one w w-is s e =
        let next-is = e ∙ ap (λ (x : Slot). x.first % 65_536) w-is ∙ sym (next_part (slot_in f k) s) in
        record {
          done = a.done ++ (k ∷ []);
          parts = a.parts ∙ ap (λ ks. a.done ++ ks) next-slot ∙ sym (append_assoc a.done (k ∷ []) _) ∙ ap (λ j. (a.done ++ (k ∷ [])) ++ chain f (slots f - (i + 1)) j) (sym next-is);
          drew = same-calls (sym (calls-append kind f a.done (k ∷ []))) (drew_then (slot_calls kind f a.done) (slot_call kind (slot_in f k) ∷ []) (Ok tt) a.drew one);
        }

    -- one that is refused
    pub along_refused : {r : State} {x : Refusal} → Drew (slot_call kind (slot_in f k) ∷ []) q (Err x) r → Drew (chain_calls kind f start) p (Err x) r
    along_refused {x = x} one =
        let rest = chain f (slots f - (i + 1)) (next_in (slot_in f k)) in
        let all = ap (slot_calls kind f) (a.parts ∙ ap (λ ks. a.done ++ ks) next-slot) ∙ calls-append kind f a.done (k ∷ rest) in
        same-calls (sym all) (drew_then (slot_calls kind f a.done) (slot_calls kind f (k ∷ rest)) (Err x) a.drew (drew_stop (slot_call kind (slot_in f k) ∷ []) (slot_calls kind f rest) one))

pub same-call : {c c' : Call} {r : Outcome} {p q : State} → c ≡ c' → Drew (c ∷ []) p r q → Drew (c' ∷ []) p r q
same-call e d = same-calls (ap {B = List Call} (λ c. c ∷ []) e) d

-- a flag as a number
flag : (b : Bool) → bool_byte b ≡ bit b
flag true = refl
flag false = refl

-- the call of a rule, from the words of its slot
pub rule_asked : (s : List ℕ) (w : Slot) → w ≡ words_of s → Parted s → {a c b f : ℤ} {mark : ℕ} {firm : Bool} → a ≡ pos (w.second % 65_536) → c ≡ signed w.third → b ≡ pos (w.second / 65_536)
    → f ≡ pos (bool_byte firm) → mark ≡ w.first / 65_536 % 256 → firm ≡ firm_bit mark → rule a c b f ≡ rule_in s
unfolding signed_at
rule_asked s w w-is p {a} {c} {b} {f} e d g k m n =
    let lower = e ∙ ap (λ (x : Slot). pos (x.second % 65_536)) w-is ∙ ap pos (sym (lower_part s p)) in
    let gap = d ∙ ap (λ (x : Slot). signed x.third) w-is in
    let upper = g ∙ ap (λ (x : Slot). pos (x.second / 65_536)) w-is ∙ ap pos (sym (upper_part s p)) in
    let marked = m ∙ ap (λ (x : Slot). x.first / 65_536 % 256) w-is ∙ sym (mark_part_lem s p) in
    let firm = k ∙ ap pos (flag _) ∙ ap (λ t. pos (bit t)) (n ∙ ap firm_bit marked) in
    λ i. rule (lower i) (gap i) (upper i) (firm i)

-- ---- the file

module _ (f : List ℕ) (some : 0 < slots f) (w : Slot) (w-is : w ≡ words_in f 0) (s : 0 < slots f → Parted (slot_in f 0)) where
  abbrev zero_is : w ≡ words_of (first_slot f)
  zero_is = zero-words f some w w-is

  module _ (a : ℕ) (a-is : a ≡ w.first % 65_536) (b : ℕ) (b-is : b ≡ w.first / 65_536) where
    measures-is : chain_calls Measure f a ≡ map (λ k. measure (value_in (slot_in f k))) (measure_chain f)
    measures-is = ap (chain_calls Measure f) (a-is ∙ ap (λ (x : Slot). x.first % 65_536) zero_is ∙ sym (next_part (first_slot f) (s some)))

    rules-is : chain_calls Rule f b ≡ map (λ k. rule_in (slot_in f k)) (rule_chain f)
    rules-is = ap (chain_calls Rule f) (b-is ∙ ap (λ (x : Slot). x.first / 65_536) zero_is ∙ sym (second_part (first_slot f) (s some)))

    drawing-is : chain_calls Measure f a ++ (chain_calls Rule f b ++ (open_plan ∷ [])) ≡ drawing f
    unfolding drawing
    drawing-is = ap₂ (λ cs ds. cs ++ (ds ++ (open_plan ∷ []))) measures-is rules-is

    -- a measure was refused
    pub file_measures : {p q : State} {x : Refusal} → Drew (chain_calls Measure f a) p (Err x) q → Drew (drawing f) p (Err x) q
    file_measures d = same-calls drawing-is (drew_stop (chain_calls Measure f a) (chain_calls Rule f b ++ (open_plan ∷ [])) d)

    module _ {p p₁ : State} (ms : Drew (chain_calls Measure f a) p (Ok tt) p₁) where
      -- a rule was refused
      pub file_rules : {q : State} {x : Refusal} → Drew (chain_calls Rule f b) p₁ (Err x) q → Drew (drawing f) p (Err x) q
      file_rules {x = x} d =
          same-calls drawing-is (drew_then (chain_calls Measure f a) (chain_calls Rule f b ++ (open_plan ∷ [])) (Err x) ms
          (drew_stop (chain_calls Rule f b) (open_plan ∷ []) d))

      -- open decides
      pub file_open : {p₂ q : State} {o : Outcome} → Drew (chain_calls Rule f b) p₁ (Ok tt) p₂ → Drew (open_plan ∷ []) p₂ o q → Drew (drawing f) p o q
      file_open {o = o} rs d =
          same-calls drawing-is (drew_then (chain_calls Measure f a) (chain_calls Rule f b ++ (open_plan ∷ [])) o ms (drew_then (chain_calls Rule f b) (open_plan ∷ []) o rs d))
