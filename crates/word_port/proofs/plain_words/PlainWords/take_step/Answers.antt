use Rattle.std.proofs.Common.{ℕ, ◌≡◌, ◌+◌, ◌<◌, Bool, if◌then◌else◌, List, ◌++◌, length, take, drop, slice_index, subst, sym, ◌∙◌, ap, arith}
use Rattle.std.proofs.lemmas.List.{take_at, get_or_default}
use Rattle.word_port.specs.declared.Step.{Step}
use Rattle.word_port.specs.declared.Race.{Race}
use Rattle.word_port.specs.Port.{PortState}
use Rattle.word_port.specs.History.{words_in_the_end, is_enclave_access}
use Rattle.word_port.specs.Plain.{HasBytes, HasMade, writes_before}
use Rattle.word_port.proofs.PlainLaws.{keeps_step}
use Rattle.word_port.proofs.plain_words.PlainWords.take_step.Goals as goal

pub invariant_of-self : goal.invariant_of-self
invariant_of-self c =
    let was = c.self.inside in
    let kept = c.self.invariant.0 in
    let found : List ℕ = c.come_to.new.words in
    let s : Step = record { side = c.args.side; kind = c.args.kind; index = c.args.index; first = c.args.first; second = c.args.second; answer = c.index-answer.result.now } in
    let access : Bool = is_enclave_access was.host s in
    let races_are = c.deref.ensures.value in
    let words_are = c.deref_mut.ensures.value in
    let access_is = c.is_access-access.ensures in
    let same : length found ≡ length was.words.items = c.come_to.auto.words ∙ ap length words_are in
    let len : length found ≡ was.words.len = c.come_to.auto.words ∙ c.deref_mut.ensures.len in
    let whole : take was.words.len (found ++ drop (length found) was.words.items) ≡ found = take_at found (drop (length found) was.words.items) was.words.len len in
    let words_of : length was.initial.items ≡ c.args.self.now.words = ap (λ (p : PortState). p.words) c.self.view_is in
    let within : c.args.index < length was.words.items = omega (arith, words_of, kept.count, c.requires.word) in
    let inside : c.args.index < length found = omega (arith, within, same) in
    let found_is : found ≡ words_in_the_end was.words.items (writes_before access was.races.items was.turn.accesses) =
    c.come_to.ensures.words
    ∙ ap (λ (l : List ℕ). words_in_the_end l (writes_before c.is_access-access.result c.deref.result.now was.turn.accesses)) words_are
    ∙ ap (λ (l : List Race). words_in_the_end was.words.items (writes_before c.is_access-access.result l was.turn.accesses)) races_are
    ∙ ap (λ (b : Bool). words_in_the_end was.words.items (writes_before b was.races.items was.turn.accesses)) access_is in
    let later_is : c.come_to.new.turn.accesses ≡ was.turn.accesses + (if access then 1 else 0) = c.come_to.ensures.accesses ∙ ap (λ (b : Bool). was.turn.accesses + (if b then 1 else 0)) access_is in
    let turn : HasMade was.races.items c.come_to.new.turn.accesses c.come_to.new.turn.made = subst (λ (l : List Race). HasMade l c.come_to.new.turn.accesses c.come_to.new.turn.made) races_are c.come_to.ensures.turn in
    let bytes : HasBytes was.host found = λ k h. c.come_to.ensures.bytes k (subst (λ (l : List ℕ). slice_index l k < 256) (sym words_are) (kept.bytes k h)) in
    let host_of : was.host ≡ c.args.self.now.host = ap (λ (p : PortState). p.host) c.self.view_is in
    let read = rw whole at c.index-answer.ensures in
    let log_of : length was.log.items ≡ length c.args.self.now.log = ap (λ (p : PortState). length p.log) c.self.view_is in
    let limit_of : was.limit ≡ c.args.self.now.limit = ap (λ (p : PortState). p.limit) c.self.view_is in
    let q = c.self.invariant in (
      rw (whole, c.word_after.ensures, c.enter.ensures.items)
          (keeps_step was.initial.items was.races.items was.host was.turn.accesses was.turn.made was.words.items was.log.items c.come_to.new.turn.accesses c.come_to.new.turn.made found s
          kept found_is later_is turn bytes same within (read ∙ get_or_default found c.args.index c.index-answer.result.now 0 inside) (λ h. c.requires.byte (subst (λ (n : ℕ). c.args.index < n) host_of h))),
      omega arith,
      omega arith,
      omega arith,
    )

pub returns-clause-byte : goal.returns-clause-byte
returns-clause-byte c = λ h.
    let was = c.self.inside in
    let kept = c.self.invariant.0 in
    let found : List ℕ = c.come_to.new.words in
    let len : length found ≡ was.words.len = c.come_to.auto.words ∙ c.deref_mut.ensures.len in
    let whole : take was.words.len (found ++ drop (length found) was.words.items) ≡ found = take_at found (drop (length found) was.words.items) was.words.len len in
    let words_are = c.deref_mut.ensures.value in
    let same : length found ≡ length was.words.items = c.come_to.auto.words ∙ ap length words_are in
    let words_of : length was.initial.items ≡ c.args.self.now.words = ap (λ (p : PortState). p.words) c.self.view_is in
    let inside : c.args.index < length found = omega (arith, words_of, kept.count, c.requires.word, same) in
    let read = rw whole at c.index-answer.ensures in
    let host_of : was.host ≡ c.args.self.now.host = ap (λ (p : PortState). p.host) c.self.view_is in
    let byte : slice_index c.deref_mut.result.now c.args.index < 256 =
    subst (λ (l : List ℕ). slice_index l c.args.index < 256) (sym words_are) (kept.bytes c.args.index (subst (λ (n : ℕ). c.args.index < n) (sym host_of) h)) in
    subst (λ (n : ℕ). n < 256) (sym (read ∙ get_or_default found c.args.index c.index-answer.result.now 0 inside)) (c.come_to.ensures.bytes c.args.index byte)
