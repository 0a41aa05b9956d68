use Rattle.std.proofs.Common.{◌≡◌, ℕ, List, Bool, ◌++◌, OnOk, map, length, subst, sym}
use Rattle.std.proofs.lemmas.List.{length-map}
use Rattle.stub_printer.specs.Stubs.{TellsAllowed}
use Rattle.stub_printer.proofs.AllowRows.{row_text}
use Rattle.stub_printer.proofs.trusted_source.put_allow_flags.Goals as goal

pub returns : goal.returns
returns c =
    let ecalls = map (λ f. f.now) c.args.ecalls.now in
    let row : TellsAllowed (length c.args.ecalls.now) c.args.allow.now c.deref.result.now =
    subst (λ (r : List Bool). TellsAllowed (length c.args.ecalls.now) c.args.allow.now r) (sym c.deref.ensures.value) c.in_ok-row.ensures in
    subst (λ (l : List ℕ). OnOk c.put_flags.result (c.put_flags.new.out.items ≡ c.args.out.now.items ++ l))
    (row_text _ _ _ ecalls row (sym (length-map c.args.ecalls.now (λ f. f.now)))) c.put_flags.ensures
