use Rattle.std.proofs.Common.{rules, ◌≡◌, ◌<◌, ◌≤◌, true, false, Some, length, inl, inr, arith}
use Rattle.std.proofs.lemmas.Result.{err_from_is_err_and}
use Rattle.edl_interface.specs.Parameters.{is_out, is_text, unit_of}
use Rattle.ocall_frames.proofs.LoadLaws.{loaded_live, none_back, block_stops, block_makes, plain_back, text_back}
use Rattle.ocall_frames.proofs.reply.load_block.Goals as goal
use Rattle.ocall_frames.proofs.reply.load_block.Goals.{then-count-eq0-via-then-count-eq0, then-count-eq0-via-else-count-eq0+then-not-is_out}

pub returns-then-count-eq0-clause-ok : goal.returns-then-count-eq0-clause-ok
returns-then-count-eq0-clause-ok g c = elim c.then-count-eq0.branch [
  | then-count-eq0-via-then-count-eq0 w ↦ let none : c.args.count ≡ 0 = omega arith in none_back c.args.class.now c.args.block c.args.at c.args.count _ c.args.arena.now (inl none)
  | then-count-eq0-via-else-count-eq0+then-not-is_out w ↦ let no : is_out c.args.class.now ≡ false = search rules in none_back c.args.class.now c.args.block c.args.at c.args.count _ c.args.arena.now (inr no)
]

pub returns-in_err-load_first-clause-full : goal.returns-in_err-load_first-clause-full
returns-in_err-load_first-clause-full g c =
    let p = err_from_is_err_and c.from_residual.result c.from_residual.ensures.1 in
    let out : is_out c.args.class.now ≡ true = search rules in
    let some : 0 < c.args.count = omega arith in
    rw (p.1, p.2) (c.in_err-load_first.ensures.full.0, block_stops c.args.class.now c.args.at c.args.count _ _ out some c.in_err-load_first.ensures.full.1)

pub end_text-requires-clause-live : goal.end_text-requires-clause-live
end_text-requires-clause-live g c =
    let (bytes, made, size, set) = c.in_ok-load_first.ensures.ok in
    let fits : length bytes ≤ c.args.block.length = omega (arith, size, c.requires.part.1) in
    loaded_live c.args.block c.args.arena.now c.load_first.new.arena bytes fits c.requires.part.0 set

pub returns-then-is_text-clause-ok : goal.returns-then-is_text-clause-ok
returns-then-is_text-clause-ok g c =
    let (bytes, made, size, set) = c.in_ok-load_first.ensures.ok in
    let out : is_out c.args.class.now ≡ true = search rules in
    let text : is_text c.args.class.now ≡ true = search rules in
    let some : 0 < c.args.count = omega arith in
    let unit : unit_of c.args.class.now ≤ c.args.count = c.requires.part.2 text in
    let within : c.unit.result ≤ c.args.count = omega (arith, unit, c.unit.ensures) in (
      Some bytes,
      block_makes c.args.class.now c.args.at c.args.count _ _ bytes out some made,
      text_back c.args.class.now c.args.block c.args.arena.now c.load_first.new.arena c.end_text.new.arena bytes c.args.count c.unit.result text c.unit.ensures within size c.requires.part.1 set c.end_text.ensures,
    )

pub returns-else-is_text-clause-ok : goal.returns-else-is_text-clause-ok
returns-else-is_text-clause-ok g c =
    let (bytes, made, size, set) = c.in_ok-load_first.ensures.ok in
    let out : is_out c.args.class.now ≡ true = search rules in
    let plain : is_text c.args.class.now ≡ false = search rules in
    let some : 0 < c.args.count = omega arith in
    let fits : length bytes ≤ c.args.block.length = omega (arith, size, c.requires.part.1) in (
      Some bytes,
      block_makes c.args.class.now c.args.at c.args.count _ _ bytes out some made,
      plain_back c.args.class.now c.args.block c.args.arena.now c.load_first.new.arena bytes plain fits set,
    )
