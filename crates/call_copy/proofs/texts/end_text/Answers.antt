use Rattle.std.proofs.Common.{◌≡◌, ◌∙◌, ap, length, nat_lt, unwrap_or}
use Rattle.sgx_base.specs.Texts.{terminated_text, has_early_end}
use Rattle.call_copy.proofs.TextLaws.{zeroed_block}
use Rattle.call_copy.proofs.texts.end_text.Goals as goal

pub bytes-bytes-requires : goal.bytes-bytes-requires
bytes-bytes-requires c =
    let (number, old, b) = c.requires.live in
    (number, terminated_text c.args.unit old, zeroed_block c.args.unit c.args.block c.args.arena.now c.zero_from.new.self number old b c.requires.fits (c.zero_from.ensures number old b))

pub returns-clause-early : goal.returns-clause-early
returns-clause-early c = λ number old b.
    let e : c.bytes-bytes.result.now ≡ terminated_text c.args.unit old =
    c.bytes-bytes.ensures.bytes number (terminated_text c.args.unit old) (zeroed_block c.args.unit c.args.block c.args.arena.now c.zero_from.new.self number old b c.requires.fits (c.zero_from.ensures number old b)) in
    ap (λ n. nat_lt n (length c.bytes-bytes.result.now)) (c.unwrap_or.ensures ∙ ap (λ o. unwrap_or o (length c.bytes-bytes.result.now)) c.terminated_length.ensures)
    ∙ ap (λ l. has_early_end c.args.unit l) e
