use Rattle.std.proofs.Common.{◌≡◌, inl, inr, subst, Ok, Err}
use Rattle.std.specs.Prelude.{All, Result, IfOk, IfErr}
use Rattle.std.proofs.lemmas.Result.{err_from_is_err_and}
use Rattle.edl_grammar.specs.declared.Gathered.{Gathered}
use Rattle.edl_grammar.specs.Files.{types_of}
use Rattle.edl_layout.specs.declared.ForeignTypes.{ForeignTypes}
use Rattle.edl_layout.specs.declared.LayoutFault.{LayoutFault}
use Rattle.edl_layout.specs.declared.LayoutFault.TheVariants.{Memory}
use Rattle.edl_layout.specs.declared.layouts.Layouts.{Layouts}
use Rattle.edl_layout.specs.Typed.{Typed}
use Rattle.edl_layout.specs.Table.{IsTable}
use Rattle.edl_layout.specs.Judged.{HasAnswer}
use Rattle.edl_layout.specs.Faults.{IsCleanType, IsCleanFunction, FunctionFault, FaultAmong, functions}
use Rattle.edl_layout.proofs.layout_of_tables.Goals as goal

abbrev LaidOut : Typed → Layouts → Type 0
LaidOut t l = All (IsCleanFunction t.gathered t.foreign) (functions t.gathered t.foreign) × IsTable t.gathered t.foreign l

abbrev IsFault : Typed → LayoutFault → Type 0
IsFault t e = (e ≡ Memory → ⊥) → FaultAmong (IsCleanFunction t.gathered t.foreign) (FunctionFault t.gathered t.foreign) (functions t.gathered t.foreign) e

answer : (g : Gathered) (foreign : ForeignTypes) (r : Result Layouts LayoutFault) → All (IsCleanType g foreign) (types_of g)
    → IfOk r (LaidOut (record { gathered = g; foreign = foreign })) → IfErr r (IsFault (record { gathered = g; foreign = foreign })) → HasAnswer g foreign r
answer g foreign (Ok l) clean ok err = (record { types = clean; functions = ok.0 }, ok.1)
answer g foreign (Err e) clean ok err = λ stated. inr (clean, err stated)

pub returns : goal.returns
returns c =
    answer c.args.tables.now.gathered.now c.args.tables.now.foreign.now c.layout_of_types.result c.in_ok-sizes.ensures.types.clean
    (subst (λ (t : Typed). IfOk c.layout_of_types.result (LaidOut t)) c.new.ensures c.layout_of_types.ensures.ok)
    (subst (λ (t : Typed). IfErr c.layout_of_types.result (IsFault t)) c.new.ensures c.layout_of_types.ensures.fault)

pub returns-in_err-sizes : goal.returns-in_err-sizes
returns-in_err-sizes c =
    let p = err_from_is_err_and c.from_residual.result c.from_residual.ensures.1 in
    rw (p.1, p.2) (λ stated. inl (c.in_err-sizes.ensures.fault stated))
