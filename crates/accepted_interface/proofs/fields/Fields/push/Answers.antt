use Rattle.accepted_interface.proofs.FieldLaws.{ends-more, place-more}
use Rattle.accepted_interface.proofs.fields.Fields.push.Goals as goal

pub returns : goal.returns
returns c = record { offset = λ fields h. rw (c.narrow.ensures, c.put-ends.ensures.place, h.ends) (place-more fields _); fields = λ fields h. record { ends = rw (c.put-ends.ensures.ends, h.ends) (ends-more fields _) } }
