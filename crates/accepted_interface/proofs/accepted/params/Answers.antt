use Rattle.std.proofs.Common.{◌≡◌, ◌+◌, ◌∷◌, drop, suc, sym, ap, ◌∙◌, subst, add-one}
use Rattle.std.proofs.Math.Seq.{drop-cons}
use Rattle.attr_terms.specs.Sizing.{files_of, table_of}
use Rattle.accepted_interface.proofs.ParamLaws.{IsRead, one-read}
use Rattle.accepted_interface.proofs.accepted.params.Goals as goal

pub loop-p-preserved : goal.loop-p-preserved
loop-p-preserved c = λ before has.
    let all = c.args.list.now.list.now in
    let split : drop c.loop-p.p-index all ≡ c.p-item.result ∷ drop (c.loop-p.p-index + 1) all =
    drop-cons all c.loop-p.p-index c.p-item.result c.loop-p-test.true
    ∙ ap (λ x. x ∷ drop (suc c.loop-p.p-index) all) (sym c.p-item.is)
    ∙ ap (λ n. c.p-item.result ∷ drop n all) (sym (add-one c.loop-p.p-index)) in
    let read : IsRead (files_of c.args.sizes.now) (table_of c.args.sizes.now) c.args.is_trusted all before c.loop-p.fields c.loop-p.done (c.p-item.result ∷ drop (c.loop-p.p-index + 1) all) =
    subst (IsRead (files_of c.args.sizes.now) (table_of c.args.sizes.now) c.args.is_trusted all before c.loop-p.fields c.loop-p.done) split (c.loop-p.invariant before has) in
    subst (λ d. IsRead (files_of c.args.sizes.now) (table_of c.args.sizes.now) c.args.is_trusted all before c.param.new.fields d (drop (c.loop-p.p-index + 1) all)) (sym c.in_ok-push.ensures.ok)
    (one-read (files_of c.args.sizes.now) (table_of c.args.sizes.now) c.args.is_trusted all before c.loop-p.fields c.param.new.fields c.loop-p.done c.in_ok-item.item c.p-item.result (drop (c.loop-p.p-index + 1) all) read
    (c.in_ok-item.ensures.param read.so_far read.has) (c.in_ok-item.ensures.fields read.so_far read.has))
