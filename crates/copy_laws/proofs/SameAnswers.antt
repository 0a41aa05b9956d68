-- The answer of a body that asks for nothing, which two calls with the same arguments have alike.
use Rattle.std.proofs.Common.{ℕ, ◌+◌, ◌-◌, ◌≡◌, Bool, true, false, List, [], ◌∷◌, length, replicate, Option, Some, None, slice_get, Ok, refl, ap, sym, ◌∙◌, subst, arith}
use Rattle.sgx_base.specs.Bytes.{rounded_size}
use Rattle.sgx_base.specs.declared.TheConstants.Status.{SUCCESS}
use Rattle.edl_interface.specs.declared.Function.{Function}
use Rattle.edl_interface.specs.declared.Param.{Param}
use Rattle.edl_interface.specs.Parameters.{marshalled, is_in, address_in}
use Rattle.edl_interface.specs.Lengths.{length_in, copied_length}
use Rattle.word_port.specs.Events.{Event, steps_of}
use Rattle.word_port.specs.Interaction.{IsRun}
use Rattle.word_port.specs.History.{Operation, IsLegal, history_of, words_in_the_end}
use Rattle.word_port.specs.Accesses.{word_at}
use Rattle.body_vm.specs.Execution.{Execution, returned}
use Rattle.call_copy.specs.Copies.{checked_bytes}
use Rattle.call_report.specs.declared.Way.{Way}
use Rattle.call_machine.specs.declared.Machine.{Machine}
use Rattle.call_machine.specs.Context.{Context, context_in_ecall}
use Rattle.call_machine.specs.Result.{Outcome}
use Rattle.call_machine.specs.Ecall.{Ocalls, Copies, Finished, Answered, shape_of, body_of, ecall_by}
use Rattle.call_laws.specs.Copying.{room_after, AreCopiedIn}
use Rattle.call_laws.specs.Answering.{IsAnsweredRun}
use Rattle.call_laws.specs.Undisturbed.{AreLegal, words_at_end, AreAt, AreBytesOf, AreCopiesOf, with_answer, IsQuiet}
use Rattle.call_laws.proofs.UndisturbedLaws.{IsReturned, returned_run}
use Rattle.copy_laws.specs.Passing.{history_with}
use Rattle.copy_laws.specs.Repeating.{AreAlikeAt, HaveSameRanges, HaveSameArguments, AreSameCalls, IsSameAnswer}
use Rattle.copy_laws.proofs.Changes.{one_more}
use Rattle.copy_laws.proofs.ExactWholes.{own_history}
use Rattle.copy_laws.proofs.Histories.{IsInParts, in_parts, storing_writes}
use Rattle.copy_laws.proofs.Parts.{HasAnswered, has_answered}
use Rattle.copy_laws.proofs.Repeats.{some_copied}
use Rattle.copy_laws.proofs.SameLaws.{same_status}
use Rattle.copy_laws.proofs.Wholes.{same_legal, same_end}

-- an answered call of a function, whose body asks for nothing, from these words to those
record IsCall (m : Machine) (cx : Context) (ordinal address : ℕ) (words after : List ℕ) (f : Function) : Type 0 where
  pub frame : List ℕ
  pub whole_frame : length frame ≡ f.frame_size
  pub frame_there : AreAt words address frame
  pub copying : List Event
  pub copies : Copies
  pub copied : AreCopiedIn f frame cx.room (marshalled f) copying copies.blocks
  pub copies_there : AreCopiesOf words f frame (marshalled f) copies.blocks
  pub room_left : copies.room ≡ room_after cx.room copies.blocks
  pub value : ℕ
  pub blocks : List (Option (List ℕ))
  pub body_is : body_of m ordinal f frame copies ≡ returned value blocks
  pub after_is : after ≡ with_answer f address frame value blocks words

is_call : (m : Machine) (ocalls : Ocalls) (cx : Context) (ordinal address : ℕ) (words : List ℕ) (events inner : List Event) (done : Answered) → IsQuiet m ordinal
    → (run : IsAnsweredRun m ocalls cx ordinal address inner done) → words_at_end words events ≡ words_at_end words inner → AreLegal words inner
    → IsCall m cx ordinal address words (words_at_end words events) run.function
is_call m ocalls cx ordinal address words events inner done quiet run same legal =
    let middle : List Operation = history_of (steps_of run.running) in
    let own : history_of (steps_of inner) ≡ history_with middle run = own_history m ocalls cx ordinal address inner done run in
    let parts : IsInParts words middle run = in_parts m ocalls cx ordinal address words inner done middle run (subst (λ l. IsLegal words l) own legal) in
    let body : Execution = body_of m ordinal run.function run.frame run.copies in
    let end : IsReturned body run.running run.finished =
    returned_run m ocalls (context_in_ecall cx ordinal run.copies.room) body run.running run.finished (quiet run.function run.frame run.copies) run.body_runs in
    let answer : Finished → List ℕ → List ℕ = λ done w. with_answer run.function address run.frame done.value done.blocks w in
    record {
      frame = run.frame;
      whole_frame = run.whole_frame;
      frame_there = parts.frame_there;
      copying = run.copying;
      copies = run.copies;
      copied = run.copied;
      copies_there = parts.copies_there;
      room_left = run.room_left;
      value = end.value;
      blocks = end.blocks;
      body_is = end.body_is;
      after_is = same ∙ ap (λ l. words_in_the_end words l) own ∙ parts.end_is ∙ storing_writes m ocalls cx ordinal address (words_in_the_end words middle) inner done run
          ∙ ap (λ es. answer run.finished (words_at_end words es)) end.no_events ∙ ap (λ done. answer done words) (sym end.done_is);
    }

module _ (words others : List ℕ) where
  same_bytes : (address : ℕ) (xs ys : List ℕ) → length xs ≡ length ys → AreAlikeAt words others address (length xs) → AreAt words address xs → AreAt others address ys → xs ≡ ys
  same_bytes address [] [] e alike p q = refl
  same_bytes address [] (y ∷ ys) e alike p q = absurd cc
  same_bytes address (x ∷ xs) [] e alike p q = absurd cc
  same_bytes address (x ∷ xs) (y ∷ ys) e alike p q =
      let first : Some x ≡ Some y = sym p.0 ∙ alike (word_at address) (address, (omega arith, omega arith), refl) ∙ q.0 in
      let head : x ≡ y = cc in
      let rest : xs ≡ ys = same_bytes (address + 1) xs ys (omega (arith, e)) (λ index w. alike index (one_more address (length xs) index w)) p.1 q.1 in
      ap (λ z. z ∷ xs) head ∙ ap (λ l. y ∷ l) rest

  same_first : (inward : Bool) (address : ℕ) (xs ys : List ℕ) → length xs ≡ length ys → (inward ≡ true → AreAlikeAt words others address (length xs))
      → AreBytesOf words inward address xs → AreBytesOf others inward address ys → xs ≡ ys
  same_first true address xs ys e alike p q = same_bytes address xs ys e (alike refl) p q
  same_first false address xs ys e alike p q = p ∙ ap (λ n. replicate n 0) e ∙ sym q

  module _ (f : Function) (frame : List ℕ) where
    same_blocks : (room more : ℕ) (params : List Param) (events later : List Event) (xs ys : List (Option (List ℕ))) → HaveSameRanges words others f frame params
        → AreCopiedIn f frame room params events xs → AreCopiesOf words f frame params xs
        → AreCopiedIn f frame more params later ys → AreCopiesOf others f frame params ys → xs ≡ ys
    same_blocks room more [] events later [] [] alike c p d q = refl
    same_blocks room more [] events later (x ∷ xs) ys alike c p d q = absurd c
    same_blocks room more [] events later [] (y ∷ ys) alike c p d q = absurd d
    same_blocks room more (p ∷ params) events later [] ys alike c h d q = absurd c
    same_blocks room more (p ∷ params) events later (x ∷ xs) [] alike c h d q = absurd d
    same_blocks room more (p ∷ params) events later (None ∷ xs) (None ∷ ys) alike c h d q =
        ap (λ l. None ∷ l) (same_blocks room more params events later xs ys alike.1 c.1 h.1 d.1 q.1)
    same_blocks room more (p ∷ params) events later (None ∷ xs) (Some y ∷ ys) alike c h d q = let (first, rest, are, copied, others_copied) = d in absurd (copied.has_block c.0)
    same_blocks room more (p ∷ params) events later (Some x ∷ xs) (None ∷ ys) alike c h d q = let (first, rest, are, copied, others_copied) = c in absurd (copied.has_block d.0)
    same_blocks room more (p ∷ params) events later (Some x ∷ xs) (Some y ∷ ys) alike c h d q =
        let (first, rest, are, copied, rest_copied) = c in
        let (first_later, rest_later, are_later, copied_later, rest_copied_later) = d in
        let size : copied_length f frame p ≡ length h.0.bytes = some_copied _ (length_in f frame p) copied.has_block ∙ sym h.0.whole in
        let bytes : h.0.bytes ≡ q.0.bytes =
        same_first (is_in p.class) (address_in frame p) h.0.bytes q.0.bytes (h.0.whole ∙ sym q.0.whole)
        (λ inward. subst (λ n. AreAlikeAt words others (address_in frame p) n) size (alike.0 inward)) h.0.there q.0.there in
        let checked : Ok x ≡ Ok y = sym h.0.checked ∙ ap (λ l. checked_bytes (shape_of p.class) l) bytes ∙ q.0.checked in
        let block : x ≡ y = cc in
        ap (λ z. Some z ∷ xs) block
        ∙ ap (λ l. Some y ∷ l) (same_blocks (room - rounded_size (length x)) (more - rounded_size (length y)) params rest rest_later xs ys alike.1 rest_copied h.1 rest_copied_later q.1)

same_copies : (room : ℕ) (c d : Copies) → c.blocks ≡ d.blocks → c.room ≡ room_after room c.blocks → d.room ≡ room_after room d.blocks → c ≡ d
same_copies room c d e p q =
    let rooms : c.room ≡ d.room = p ∙ ap (λ l. room_after room l) e ∙ sym q in
    ap (λ l. record c { blocks = l }) e ∙ ap (λ r. record d { room = r }) rooms

module _ (m : Machine) (cx : Context) (ordinal address : ℕ) (words others after later : List ℕ) (f : Function) (found : slice_get m.interface.ecalls ordinal ≡ Some f) where
  by_calls : HaveSameArguments f address words others → IsCall m cx ordinal address words after f → IsCall m cx ordinal address others later f
      → IsSameAnswer m ordinal address words others after later
  by_calls same one two =
      let frames : one.frame ≡ two.frame =
      same_bytes words others address one.frame two.frame (one.whole_frame ∙ sym two.whole_frame) (subst (λ n. AreAlikeAt words others address n) (sym one.whole_frame) same.frames) one.frame_there two.frame_there in
      let copied : AreCopiedIn f one.frame cx.room (marshalled f) two.copying two.copies.blocks =
      subst (λ l. AreCopiedIn f l cx.room (marshalled f) two.copying two.copies.blocks) (sym frames) two.copied in
      let there : AreCopiesOf others f one.frame (marshalled f) two.copies.blocks = subst (λ l. AreCopiesOf others f l (marshalled f) two.copies.blocks) (sym frames) two.copies_there in
      let blocks : one.copies.blocks ≡ two.copies.blocks =
      same_blocks words others f one.frame cx.room cx.room (marshalled f) one.copying two.copying one.copies.blocks two.copies.blocks (same.ranges one.frame one.whole_frame one.frame_there)
      one.copied one.copies_there copied there in
      let copies : one.copies ≡ two.copies = same_copies cx.room one.copies two.copies blocks one.room_left two.room_left in
      let answers : returned one.value one.blocks ≡ returned two.value two.blocks =
      sym one.body_is ∙ ap (λ l. body_of m ordinal f l one.copies) frames ∙ ap (λ c. body_of m ordinal f two.frame c) copies ∙ two.body_is in
      let values : two.value ≡ one.value = cc in
      let backs : two.blocks ≡ one.blocks = cc in
      record {
        function = f;
        found = found;
        frame = one.frame;
        value = one.value;
        blocks = one.blocks;
        first_is = one.after_is;
        second_is = two.after_is
            ∙ ap (λ l. with_answer f address l two.value two.blocks others) (sym frames)
            ∙ ap (λ v. with_answer f address one.frame v two.blocks others) values
            ∙ ap (λ l. with_answer f address one.frame one.value l others) backs;
      }

pub same_answer : (m : Machine) (ocalls : Ocalls) (cx : Context) (ordinal address : ℕ) (way : Way) (words others : List ℕ) (events later : List Event) (outcome other : Outcome) → IsQuiet m ordinal
    → IsRun (ecall_by m ocalls cx ordinal address way) events outcome → AreLegal words events
    → IsRun (ecall_by m ocalls cx ordinal address way) later other → AreLegal others later
    → AreSameCalls m ordinal address words others → outcome.status ≡ SUCCESS
    → IsSameAnswer m ordinal address words others (words_at_end words events) (words_at_end others later)
same_answer m ocalls cx ordinal address way words others events later outcome other quiet run legal run_later legal_later same e =
    let status : outcome.status ≡ other.status = same_status m ocalls cx ordinal address way words others events later outcome other run legal run_later legal_later same in
    let a : HasAnswered m ocalls cx ordinal address events = has_answered m ocalls cx ordinal address way events outcome run e in
    let b : HasAnswered m ocalls cx ordinal address later = has_answered m ocalls cx ordinal address way later other run_later (sym status ∙ e) in
    let f : Function = a.run.function in
    let two : IsCall m cx ordinal address others (words_at_end others later) b.run.function =
    is_call m ocalls cx ordinal address others later b.inner b.done quiet b.run (same_end others later b.inner b.steps_are) (same_legal others later b.inner b.steps_are legal_later) in
    let founds : Some b.run.function ≡ Some f = sym b.run.found ∙ a.run.found in
    let functions : b.run.function ≡ f = cc in
    by_calls m cx ordinal address words others (words_at_end words events) (words_at_end others later) f a.run.found (same f a.run.found)
    (is_call m ocalls cx ordinal address words events a.inner a.done quiet a.run (same_end words events a.inner a.steps_are) (same_legal words events a.inner a.steps_are legal))
    (subst (λ g. IsCall m cx ordinal address others (words_at_end others later) g) functions two)
