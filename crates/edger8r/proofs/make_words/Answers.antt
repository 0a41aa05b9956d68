use Rattle.std.proofs.Common.{List, ℕ, subst}
use Rattle.edger8r.specs.Made.{MakesAll}
use Rattle.edger8r.specs.Endings.{faulty_words, helped, no_memory, making}
use Rattle.edger8r.proofs.make_words.Goals as goal

pub returns-in-Ok-Help : goal.returns-in-Ok-Help
returns-in-Ok-Help g c = helped (let asked = c.in-Ok-Help.ensures.ok in let is = c.in-Ok-Help.field-0-is in cc)

pub returns-in-Ok-Stubs : goal.returns-in-Ok-Stubs
returns-in-Ok-Stubs g c =
    let asked = c.in-Ok-Stubs.ensures.ok in
    let is = c.in-Ok-Stubs.field-0-is in
    let before = g.F.Files.state c.args.files.now in
    let after = g.F.Files.state c.make_all.new.files in
    making c.in-Ok-Stubs.choices after c.make_all.result (cc)
    (subst (λ (files : List (List ℕ)). MakesAll c.in-Ok-Stubs.choices files before after c.make_all.result) c.as_slice.ensures c.make_all.ensures)

pub returns-in-Err-Usage : goal.returns-in-Err-Usage
returns-in-Err-Usage g c = faulty_words (c.in-Err-Usage.ensures.usage (let is = c.in-Err-Usage.field-0-is in cc))

pub returns-in-Err-Memory : goal.returns-in-Err-Memory
returns-in-Err-Memory g c = no_memory
