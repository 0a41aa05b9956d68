use Rattle.std.proofs.Common.{ℕ, ◌≡◌, ◌∙◌, length, take, replicate, sym, subst, arith, IsTrue}
use Rattle.std.proofs.lemmas.Result.{err_from_is_err_and}
use Rattle.sgx_base.specs.Ranges.{is_mapped}
use Rattle.edl_interface.specs.Parameters.{return_size}
use Rattle.word_port.specs.Accesses.{loads}
use Rattle.word_port.specs.Runs.{Makes, StopsFull}
use Rattle.word_port.specs.declared.Side.TheVariants.{Enclave}
use Rattle.ocall_frames.proofs.WholeLaws.{zeros_taken}
use Rattle.ocall_frames.proofs.reply.load_return.Goals as goal

pub load_bytes-requires : goal.load_bytes-requires
load_bytes-requires g c =
    let e : length {A = ℕ} (take c.return_size.result (replicate 8 0)) ≡ return_size c.args.function.now =
    zeros_taken c.return_size.result 8 (omega (arith, c.return_size.ensures, c.requires.size)) ∙ c.return_size.ensures in
    subst (λ n. IsTrue (is_mapped (g.P.WordPort.state c.args.port.now).host c.args.at n)) (sym e) c.requires.mapped

pub returns-in_err-load_bytes-clause-full : goal.returns-in_err-load_bytes-clause-full
returns-in_err-load_bytes-clause-full g c =
    let p = err_from_is_err_and c.from_residual.result c.from_residual.ensures.1 in
    let e : length {A = ℕ} (take c.return_size.result (replicate 8 0)) ≡ return_size c.args.function.now =
    zeros_taken c.return_size.result 8 (omega (arith, c.return_size.ensures, c.requires.size)) ∙ c.return_size.ensures in
    rw (p.1, p.2) (
      c.in_err-load_bytes.ensures.full.0,
      subst (λ n. StopsFull (loads Enclave c.args.at n) (g.P.WordPort.state c.args.port.now) (g.P.WordPort.state c.load_bytes.new.port)) e c.in_err-load_bytes.ensures.full.1,
    )

pub returned-requires-clause-count : goal.returned-requires-clause-count
returned-requires-clause-count g c =
    let e : length {A = ℕ} (take c.return_size.result (replicate 8 0)) ≡ return_size c.args.function.now =
    zeros_taken c.return_size.result 8 (omega (arith, c.return_size.ensures, c.requires.size)) ∙ c.return_size.ensures in
    c.load_bytes.auto.out ∙ e

pub returns-clause-ok : goal.returns-clause-ok
returns-clause-ok g c =
    let e : length {A = ℕ} (take c.return_size.result (replicate 8 0)) ≡ return_size c.args.function.now =
    zeros_taken c.return_size.result 8 (omega (arith, c.return_size.ensures, c.requires.size)) ∙ c.return_size.ensures in (
      c.load_bytes.new.out,
      subst (λ n. Makes (loads Enclave c.args.at n) (g.P.WordPort.state c.args.port.now) (g.P.WordPort.state c.load_bytes.new.port) c.load_bytes.new.out) e c.in_ok-load_bytes.ensures.ok,
      c.returned.ensures,
    )
