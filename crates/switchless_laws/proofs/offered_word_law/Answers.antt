use Rattle.switchless.specs.Slots.{place_of_frame}
use Rattle.switchless_laws.proofs.Words.{offered_of, ordinal_of, place_of}
use Rattle.switchless_laws.proofs.offered_word_law.Goals as goal

pub returns : goal.returns
returns c = record {
  offered = λ ordinal frame p q. offered_of ordinal (place_of_frame frame) p q;
  ordinal = λ ordinal frame p. ordinal_of ordinal (place_of_frame frame) p;
  place = λ ordinal frame p q. place_of ordinal (place_of_frame frame) p q;
}
