use Rattle.std.proofs.Common.{ℕ, List, ◌≡◌, ◌-◌, length, take, subst, sym, OnOk, IfErr}
use Rattle.std.proofs.lemmas.List.{length-take-le}
use Rattle.word_port.specs.Accesses.{stores}
use Rattle.word_port.specs.Runs.{Makes, StopsFull}
use Rattle.word_port.specs.declared.RunFull.TheVariants.{Steps}
use Rattle.word_port.specs.declared.Side.TheVariants.{Enclave}
use Rattle.call_copy.proofs.TextLaws.{unit_fits}
use Rattle.call_copy.proofs.CutLaws.{cut_some, cut_whole}
use Rattle.call_copy.proofs.copies.put_text.Goals as goal

pub slice_bounds-body-count : goal.slice_bounds-body-count
slice_bounds-body-count g c = (unit_fits c.args.unit (length c.args.bytes.now) c.requires.whole c.requires.some).1

pub slice_bounds-put_range-end : goal.slice_bounds-put_range-end
slice_bounds-put_range-end g c =
    sym (length-take-le c.in-Some.n (take (length c.args.bytes.now - c.args.unit) c.args.bytes.now) (cut_some c.args.unit c.in-Some.n c.args.bytes.now c.requires.some c.requires.whole (sym c.in-Some.ensures)).0)

pub returns-in-Some-clause-ok : goal.returns-in-Some-clause-ok
returns-in-Some-clause-ok g c =
    subst (λ (l : List ℕ). OnOk c.put_range.result (Makes (stores Enclave c.args.at l) (g.P.WordPort.state c.args.port.now) (g.P.WordPort.state c.put_range.new.port) tt))
    (cut_some c.args.unit c.in-Some.n c.args.bytes.now c.requires.some c.requires.whole (sym c.in-Some.ensures)).1 c.put_range.ensures.ok

pub returns-in-Some-clause-full : goal.returns-in-Some-clause-full
returns-in-Some-clause-full g c =
    subst (λ (l : List ℕ). IfErr c.put_range.result (λ full. (full ≡ Steps) × StopsFull (stores Enclave c.args.at l) (g.P.WordPort.state c.args.port.now) (g.P.WordPort.state c.put_range.new.port)))
    (cut_some c.args.unit c.in-Some.n c.args.bytes.now c.requires.some c.requires.whole (sym c.in-Some.ensures)).1 c.put_range.ensures.full

pub returns-in-None-clause-ok : goal.returns-in-None-clause-ok
returns-in-None-clause-ok g c =
    subst (λ (l : List ℕ). OnOk c.put_ended.result (Makes (stores Enclave c.args.at l) (g.P.WordPort.state c.args.port.now) (g.P.WordPort.state c.put_ended.new.port) tt))
    (sym (cut_whole c.args.unit c.args.bytes.now c.requires.some c.requires.whole (sym c.in-None.ensures))) c.put_ended.ensures.ok

pub returns-in-None-clause-full : goal.returns-in-None-clause-full
returns-in-None-clause-full g c =
    subst (λ (l : List ℕ). IfErr c.put_ended.result (λ full. (full ≡ Steps) × StopsFull (stores Enclave c.args.at l) (g.P.WordPort.state c.args.port.now) (g.P.WordPort.state c.put_ended.new.port)))
    (sym (cut_whole c.args.unit c.args.bytes.now c.requires.some c.requires.whole (sym c.in-None.ensures))) c.put_ended.ensures.full
