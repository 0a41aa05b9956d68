use Rattle.std.proofs.Common.{◌≡◌, map, take}
use Rattle.bridge_text.proofs.declarations.words_of.Given as goal

abbrev pub invariant-loop-word : goal.invariant-loop-word
invariant-loop-word l = map (λ word. word.now) l.kept.items ≡ take l.word-index l.words
