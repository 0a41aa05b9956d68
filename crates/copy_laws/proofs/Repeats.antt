-- Loads find the same bytes where words are alike.
use Rattle.std.proofs.Common.{ℕ, ◌+◌, ◌-◌, ◌≡◌, ◌⊎◌, inl, inr, Bool, true, false, if◌then◌else◌, List, [], ◌∷◌, ◌++◌, length, Option, Some, None, slice_get, refl, ap, sym, ◌∙◌, subst}
use Rattle.sgx_base.specs.Bytes.{rounded_size}
use Rattle.sgx_base.specs.Rows.{first_row}
use Rattle.sgx_base.specs.declared.Status.{Status}
use Rattle.edl_interface.specs.declared.Function.{Function}
use Rattle.edl_interface.specs.declared.Param.{Param}
use Rattle.edl_interface.specs.Parameters.{marshalled, is_in, address_in}
use Rattle.edl_interface.specs.Lengths.{length_in, copied_length}
use Rattle.word_port.specs.Requests.{step_of}
use Rattle.word_port.specs.Events.{Event, made, ticked, placed, steps_of}
use Rattle.word_port.specs.Accesses.{word_at}
use Rattle.word_port.specs.History.{IsLegal, history_of, words_after}
use Rattle.word_port.specs.Interaction.{Interaction, ret, ask, here, tick, IsRun}
use Rattle.word_port.proofs.HistoryLaws.{legal_append}
use Rattle.word_port.proofs.Laws.{steps_of-append}
use Rattle.word_port.proofs.OneRun.{not_ended, ret-injective}
use Rattle.body_vm.proofs.PlaceLaws.{set_same}
use Rattle.call_machine.specs.declared.Machine.{Machine}
use Rattle.call_machine.specs.Context.{Context}
use Rattle.call_machine.specs.Refusal.{frame_rows}
use Rattle.call_laws.specs.Transfers.{loads_of, AreFirstBytes}
use Rattle.call_laws.specs.Copying.{room_after, AreCopiedIn}
use Rattle.call_laws.specs.Refusing.{IsRefusedParam, IsRefusedCopying, IsRefusedLoaded, IsRefusedAfterFrame, IsRefusedRun}
use Rattle.call_laws.specs.Undisturbed.{AreLegal, words_at_end, AreAt}
use Rattle.call_laws.proofs.UndisturbedLaws.{legal_events, end_events, loads_there}
use Rattle.copy_laws.specs.Repeating.{AreAlikeAt, HaveSameRanges, HaveSameArguments, AreSameCalls}
use Rattle.copy_laws.proofs.Changes.{at_kept}
use Rattle.copy_laws.proofs.ExactWholes.{history_append}

-- each event is a step
abbrev pub AreMade : List Event → Type 0
AreMade [] = Unit {0}
AreMade (made s ∷ events) = AreMade events
AreMade (_ ∷ events) = ⊥

-- events that are steps, legal on the words, and leave them
pub record IsCalm (words : List ℕ) (events : List Event) : Type 0 where
  pub steps : AreMade events
  pub legal : AreLegal words events
  pub same : words_at_end words events ≡ words

made_append : (xs ys : List Event) → AreMade xs → AreMade ys → AreMade (xs ++ ys)
made_append [] ys p q = q
made_append (made s ∷ xs) ys p q = made_append xs ys p q
made_append (ticked k ∷ xs) ys p q = absurd p
made_append (placed n ∷ xs) ys p q = absurd p

calm_none : (words : List ℕ) (events : List Event) → events ≡ [] → IsCalm words events
calm_none words events e = subst (λ es. IsCalm words es) (sym e) (record { steps = tt; legal = tt; same = refl })

calm_append : (words : List ℕ) (xs ys : List Event) → IsCalm words xs → IsCalm words ys → IsCalm words (xs ++ ys)
calm_append words xs ys p q = record {
  steps = made_append xs ys p.steps q.steps;
  legal = subst (λ l. IsLegal words l) (sym (ap (λ l. history_of l) (steps_of-append xs ys) ∙ history_append (steps_of xs) (steps_of ys)))
      (legal_append words (history_of (steps_of xs)) (history_of (steps_of ys)) p.legal (subst (λ w. AreLegal w ys) (sym p.same) q.legal));
  same = end_events words xs ys ∙ ap (λ w. words_at_end w ys) p.same ∙ q.same;
}

loads_made : (address : ℕ) (bytes : List ℕ) → AreMade (loads_of address bytes)
loads_made address [] = tt
loads_made address (b ∷ bytes) = loads_made (address + 1) bytes

loads_calm : (words : List ℕ) (address : ℕ) (bytes : List ℕ) → AreAt words address bytes → IsCalm words (loads_of address bytes)
loads_calm words address bytes h =
    let legal : AreLegal words (loads_of address bytes) = there_legal address bytes h in
    record { steps = loads_made address bytes; legal = legal; same = (loads_there words address bytes legal).1 }
  where
    there_legal : (at : ℕ) (these : List ℕ) → AreAt words at these → AreLegal words (loads_of at these)
    there_legal at [] h = tt
    there_legal at (b ∷ these) h = (h.0, subst (λ w. AreLegal w (loads_of (at + 1) these)) (sym (set_same words (word_at at) b h.0)) (there_legal (at + 1) these h.1))

alike_back : (words others : List ℕ) (address count : ℕ) → AreAlikeAt words others address count → AreAlikeAt others words address count
alike_back words others address count h = λ index w. sym (h index w)

-- a length that is not 0 is the parameter's
pub some_copied : (null : Bool) (n : ℕ) → ¬ ((if null then 0 else n) ≡ 0) → (if null then 0 else n) ≡ n
some_copied true n h = absurd (h refl)
some_copied false n h = refl

-- both at once
abbrev pub AreCalm : List ℕ → List ℕ → List Event → Type 0
AreCalm words others events = IsCalm words events × IsCalm others events

module _ (words others : List ℕ) where
  both_append : (xs ys : List Event) → AreCalm words others xs → AreCalm words others ys → AreCalm words others (xs ++ ys)
  both_append xs ys p q = (calm_append words xs ys p.0 q.0, calm_append others xs ys p.1 q.1)

  loads_both : (address : ℕ) (bytes : List ℕ) → AreAlikeAt words others address (length bytes) → AreLegal words (loads_of address bytes) → AreCalm words others (loads_of address bytes)
  loads_both address bytes alike legal =
      let at : AreAt words address bytes = (loads_there words address bytes legal).0 in
      (loads_calm words address bytes at, loads_calm others address bytes (at_kept words others address bytes (alike_back words others address (length bytes) alike) at))

  first_both : (inward : Bool) (address : ℕ) (bytes : List ℕ) (events : List Event) → AreFirstBytes inward address bytes events → (inward ≡ true → AreAlikeAt words others address (length bytes))
      → AreLegal words events → AreCalm words others events
  first_both true address bytes events h alike legal =
      subst (λ es. AreCalm words others es) (sym h) (loads_both address bytes (alike refl) (subst (λ es. AreLegal words es) h legal))
  first_both false address bytes events h alike legal = (calm_none words events h.1, calm_none others events h.1)

  -- the rest of legal events, where the first ones are calm
  rest_legal : (xs ys : List Event) → IsCalm words xs → AreLegal words (xs ++ ys) → AreLegal words ys
  rest_legal xs ys p h = subst (λ w. AreLegal w ys) p.same (legal_events words xs ys h).1

  module _ (f : Function) (frame : List ℕ) where
    copying_both : (room : ℕ) (params : List Param) (events : List Event) (blocks : List (Option (List ℕ))) → AreCopiedIn f frame room params events blocks
        → HaveSameRanges words others f frame params → AreLegal words events → AreCalm words others events
    copying_both room [] events [] c alike legal = (calm_none words events c, calm_none others events c)
    copying_both room [] events (b ∷ blocks) c alike legal = absurd c
    copying_both room (p ∷ params) events [] c alike legal = absurd c
    copying_both room (p ∷ params) events (None ∷ blocks) c alike legal = copying_both room params events blocks c.1 alike.1 legal
    copying_both room (p ∷ params) events (Some block ∷ blocks) c alike legal =
        let (first, more, events_are, copied, rest) = c in
        let all : AreLegal words (first ++ more) = subst (λ es. AreLegal words es) events_are legal in
        let size : copied_length f frame p ≡ length copied.bytes = some_copied _ (length_in f frame p) copied.has_block ∙ sym copied.whole in
        let here : AreCalm words others first =
        first_both (is_in p.class) (address_in frame p) copied.bytes first copied.first (λ inward. subst (λ n. AreAlikeAt words others (address_in frame p) n) size (alike.0 inward)) (legal_events words first more all).0 in
        subst (λ es. AreCalm words others es) (sym events_are)
        (both_append first more here (copying_both (room - rounded_size (length block)) params more blocks rest alike.1 (rest_legal first more here.0 all)))

    param_both : (room : ℕ) (p : Param) (events : List Event) (status : Status) → ¬ (copied_length f frame p ≡ 0) → IsRefusedParam f frame room p events status
        → (is_in p.class ≡ true → AreAlikeAt words others (address_in frame p) (copied_length f frame p)) → AreLegal words events → AreCalm words others events
    param_both room p events status some (inl h) alike legal = (calm_none words events h.1, calm_none others events h.1)
    param_both room p events status some (inr h) alike legal =
        let size : copied_length f frame p ≡ length h.bytes = some_copied _ (length_in f frame p) some ∙ sym h.whole in
        first_both (is_in p.class) (address_in frame p) h.bytes events h.first (λ inward. subst (λ n. AreAlikeAt words others (address_in frame p) n) size (alike inward)) legal

    ranges_parts : (xs ys : List Param) → HaveSameRanges words others f frame (xs ++ ys) → HaveSameRanges words others f frame xs × HaveSameRanges words others f frame ys
    ranges_parts [] ys h = (tt, h)
    ranges_parts (p ∷ xs) ys h = let rest : HaveSameRanges words others f frame xs × HaveSameRanges words others f frame ys = ranges_parts xs ys h.1 in ((h.0, rest.0), rest.1)

    refused_copying_both : (room : ℕ) (params : List Param) (events : List Event) (status : Status) → IsRefusedCopying f frame room params events status
        → HaveSameRanges words others f frame params → AreLegal words events → AreCalm words others events
    refused_copying_both room params events status h alike legal =
        let ranges : HaveSameRanges words others f frame h.before × HaveSameRanges words others f frame (h.next ∷ h.later) =
        ranges_parts h.before (h.next ∷ h.later) (subst (λ ps. HaveSameRanges words others f frame ps) h.params_are alike) in
        let all : AreLegal words (h.copying ++ h.ending) = subst (λ es. AreLegal words es) h.events_are legal in
        let here : AreCalm words others h.copying = copying_both room h.before h.copying h.blocks h.copied ranges.0 (legal_events words h.copying h.ending all).0 in
        subst (λ es. AreCalm words others es) (sym h.events_are)
        (both_append h.copying h.ending here
        (param_both (room_after room h.blocks) h.next h.ending status h.has_block h.refused ranges.1.0 (rest_legal h.copying h.ending here.0 all)))

    loaded_both : (host room : ℕ) (events : List Event) (status : Status) → IsRefusedLoaded host f frame room events status → HaveSameRanges words others f frame (marshalled f)
        → AreLegal words events → AreCalm words others events
    loaded_both host room events status (inl h) alike legal = (calm_none words events h.1, calm_none others events h.1)
    loaded_both host room events status (inr h) alike legal = refused_copying_both room (marshalled f) events status h.1 alike legal

  after_both : (m : Machine) (cx : Context) (address : ℕ) (f : Function) (events : List Event) (status : Status) → HaveSameArguments f address words others
      → IsRefusedAfterFrame m cx address f events status → AreLegal words events → AreCalm words others events
  after_both m cx address f events status same h legal =
      let loading : List Event = loads_of address h.frame in
      let all : AreLegal words (loading ++ h.copying) = subst (λ es. AreLegal words es) h.events_are legal in
      let first : AreLegal words loading = (legal_events words loading h.copying all).0 in
      let here : AreCalm words others loading = loads_both address h.frame (subst (λ n. AreAlikeAt words others address n) (sym h.whole_frame) same.frames) first in
      subst (λ es. AreCalm words others es) (sym h.events_are)
      (both_append loading h.copying here
      (loaded_both f h.frame m.script.settings.host cx.room h.copying status h.refused (same.ranges h.frame h.whole_frame (loads_there words address h.frame first).0) (rest_legal loading h.copying here.0 all)))

  pub refused_both : (m : Machine) (cx : Context) (ordinal address : ℕ) (events : List Event) (status : Status) → AreSameCalls m ordinal address words others
      → IsRefusedRun m cx ordinal address events status → AreLegal words events → AreCalm words others events
  refused_both m cx ordinal address events status same (inl h) legal = (calm_none words events h.1, calm_none others events h.1)
  refused_both m cx ordinal address events status same (inr h) legal = by_frame h.refused
    where
      by_frame : ((first_row (frame_rows m.script.settings.host h.function address) ≡ Some status) × (events ≡ [])) ⊎ IsRefusedAfterFrame m cx address h.function events status → AreCalm words others events
      by_frame (inl e) = (calm_none words events e.1, calm_none others events e.1)
      by_frame (inr g) = after_both m cx address h.function events status (same h.function h.found) g legal

-- of two legal runs on the same words one of which has steps alone, both have one value
pub only_run : {A : Type 0} (t : Interaction A) (words : List ℕ) (xs ys : List Event) (x y : A) → IsRun t xs x → IsRun t ys y → AreMade xs → AreLegal words xs → AreLegal words ys → x ≡ y
only_run (ret a) words [] [] x y p q m lx ly = sym (ret-injective a x p) ∙ ret-injective a y q
only_run (ret a) words (e ∷ xs) ys x y p q m lx ly = absurd p
only_run (ret a) words [] (e ∷ ys) x y p q m lx ly = absurd q
only_run (ask r next) words [] ys x y p q m lx ly = absurd (not_ended (ask r next) x p)
only_run (ask r next) words (made s ∷ xs) [] x y p q m lx ly = absurd (not_ended (ask r next) y q)
only_run (ask r next) words (made s ∷ xs) (made u ∷ ys) x y p q m lx ly =
    let at_s : s.index ≡ r.index = ap (λ v. v.index) p.0 in
    let at_u : u.index ≡ r.index = ap (λ v. v.index) q.0 in
    let answers : Some s.answer ≡ Some u.answer = sym lx.0 ∙ ap (λ i. slice_get words i) (at_s ∙ sym at_u) ∙ ly.0 in
    let same : s.answer ≡ u.answer = cc in
    let step_is : u ≡ s = q.0 ∙ ap (λ a. step_of r a) (sym same) ∙ sym p.0 in
    only_run (next s.answer) (words_after words s) xs ys x y p.1 (subst (λ a. IsRun (next a) ys y) (sym same) q.1) m lx.1
    (subst (λ v. AreLegal (words_after words v) ys) step_is ly.1)
only_run (ask r next) words (made s ∷ xs) (ticked k ∷ ys) x y p q m lx ly = absurd q
only_run (ask r next) words (made s ∷ xs) (placed n ∷ ys) x y p q m lx ly = absurd q
only_run (ask r next) words (ticked k ∷ xs) ys x y p q m lx ly = absurd p
only_run (ask r next) words (placed n ∷ xs) ys x y p q m lx ly = absurd p
only_run (here next) words [] ys x y p q m lx ly = absurd (not_ended (here next) x p)
only_run (here next) words (made s ∷ xs) ys x y p q m lx ly = absurd p
only_run (here next) words (ticked k ∷ xs) ys x y p q m lx ly = absurd m
only_run (here next) words (placed n ∷ xs) ys x y p q m lx ly = absurd m
only_run (tick c next) words [] ys x y p q m lx ly = absurd (not_ended (tick c next) x p)
only_run (tick c next) words (made s ∷ xs) ys x y p q m lx ly = absurd p
only_run (tick c next) words (ticked k ∷ xs) ys x y p q m lx ly = absurd m
only_run (tick c next) words (placed n ∷ xs) ys x y p q m lx ly = absurd m
