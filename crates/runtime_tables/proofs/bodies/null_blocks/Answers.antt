use Rattle.std.proofs.Common.{◌≡◌, List, [], ◌∷◌, ◌++◌, ◌∙◌, Option, None, ap, sym, subst}
use Rattle.enclave_memory.specs.declared.Block.{Block}
use Rattle.body_vm.specs.Places.{IsHeld}
use Rattle.runtime_tables.proofs.bodies.null_blocks.Goals as goal

pub returns-clause-held : goal.returns-clause-held
returns-clause-held c = λ arena.
    let none : List (Option Block) = None ∷ [] in
    let blocks : c.push-4.new.self.items ≡ None ∷ None ∷ None ∷ none =
    c.push-4.ensures.items
    ∙ ap (λ bs. bs ++ none) (c.push-3.ensures.items
    ∙ ap (λ bs. bs ++ none) (c.push-2.ensures.items
    ∙ ap (λ bs. bs ++ none) (c.push.ensures.items ∙ ap (λ bs. bs ++ none) c.new-blocks.ensures))) in (
      None ∷ None ∷ None ∷ None ∷ [],
      subst (λ bs. IsHeld arena bs (None ∷ None ∷ None ∷ None ∷ [])) (sym blocks)
          record { numbered = (tt, (tt, (tt, (tt, tt)))); apart = tt },
    )
