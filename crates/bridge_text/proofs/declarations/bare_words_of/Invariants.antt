use Rattle.std.proofs.Common.{◌≡◌, map, take}
use Rattle.bridge_text.specs.Declarations.{bare_words}
use Rattle.bridge_text.proofs.declarations.bare_words_of.Given as goal

abbrev pub invariant-loop-word : goal.invariant-loop-word
invariant-loop-word l = map (λ word. word.now) l.kept.items ≡ bare_words (take l.word-index l.words)
