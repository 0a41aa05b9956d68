use Rattle.std.proofs.Common.{◌≡◌, ◌∙◌, ap, subst, take, OnOk, IfErr}
use Rattle.sgx_base.specs.Bytes.{low_bytes}
use Rattle.word_port.specs.Accesses.{stores}
use Rattle.word_port.specs.Runs.{Makes}
use Rattle.word_port.specs.declared.Side.TheVariants.{Host}
use Rattle.call_copy.specs.Stops.{IsCutShort}
use Rattle.call_machine.proofs.HostFrames.{low_of_eight}
use Rattle.call_machine.proofs.acts.put_return.Goals as goal

pub returns-clause-ok : goal.returns-clause-ok
returns-clause-ok g c =
    let bytes_are : take c.args.place.return_size c.little_endian_bytes-bytes.result ≡ low_bytes c.args.place.return_size c.args.value =
    ap (λ l. take c.args.place.return_size l) c.little_endian_bytes-bytes.ensures ∙ low_of_eight c.args.place.return_size c.args.value c.requires.few in
    subst (λ bytes. OnOk c.put_range.result (Makes (stores Host c.args.place.frame bytes) (g.P.WordPort.state c.args.port.now) (g.P.WordPort.state c.put_range.new.port) tt)) bytes_are c.put_range.ensures.ok

pub returns-clause-full : goal.returns-clause-full
returns-clause-full g c =
    let bytes_are : take c.args.place.return_size c.little_endian_bytes-bytes.result ≡ low_bytes c.args.place.return_size c.args.value =
    ap (λ l. take c.args.place.return_size l) c.little_endian_bytes-bytes.ensures ∙ low_of_eight c.args.place.return_size c.args.value c.requires.few in
    subst (λ bytes. IfErr c.put_range.result (IsCutShort (stores Host c.args.place.frame bytes) (g.P.WordPort.state c.args.port.now) (g.P.WordPort.state c.put_range.new.port))) bytes_are c.put_range.ensures.full
