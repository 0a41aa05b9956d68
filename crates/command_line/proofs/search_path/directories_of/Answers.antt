use Rattle.std.proofs.Common.{List, ℕ, [], ◌∷◌, ◌++◌, map, sym, ap, ◌∙◌, lit<}
use Rattle.std.proofs.lemmas.List.{map-append}
use Rattle.std.proofs.lemmas.Iterator.Consumers.{YieldsList-at, YieldsList-end}
use Rattle.std.proofs.lemmas.Iterator.Splits.{YieldsList-from_str_split}
use Rattle.command_line.proofs.search_path.directories_of.Goals as goal

pub loop-directory-preserved : goal.loop-directory-preserved
loop-directory-preserved c =
    c.in_ok-push.ensures.ok ∙ ap (λ (ds : List (List ℕ)). ds ++ c.in_ok-new.field-0 ∷ []) c.loop-directory.invariant
    ∙ ap (λ (d : List ℕ). map (λ x. x.now) c.loop-directory.yielded ++ d ∷ []) c.in_ok-new.ensures
    ∙ sym (map-append (λ x. x.now) c.loop-directory.yielded (c.in-Some.directory ∷ []))

pub returns : goal.returns
returns c =
    let parts = c.split-directory-items.ensures in
    let split = YieldsList-from_str_split 58 c.args.path.now (lit< tt) parts.text parts.has_more parts.pattern in
    c.loop-directory.invariant
    ∙ (YieldsList-end (YieldsList-at c.into_iter-directory-iterator.ensures.into_iter_gives split) c.loop-directory.yielded _ c.loop-directory.yielded_by _ _ c.in-None.is c.next.ensures.steps).0
