use Rattle.std.proofs.Common.{rules, ℕ, ◌/◌, ◌%◌, ◌<◌, ◌≡◌, List, [], ◌∷◌, ◌++◌, OnOk, ap, subst, sym, ◌∙◌, arith, append_assoc, append-nil}
use Rattle.bridge_text.specs.Products.{low_digits}
use Rattle.bridge_text.proofs.ProductLaws.{low_zero, low_step}
use Rattle.bridge_text.proofs.products.+push_digits.Goals as goal

pub returns-then-number-eq0 : goal.returns-then-number-eq0
returns-then-number-eq0 t c =
    let none : low_digits c.args.number ≡ [] = ap low_digits c.if-number-eq0.true ∙ low_zero in
    sym (append-nil c.args.digits.now.items) ∙ ap (λ l. c.args.digits.now.items ++ l) (sym none)

pub returns : goal.returns
returns t c =
    let n = c.args.number in
    let some : 0 < n = omega (arith, c.if-number-eq0.false) in
    let pushed : c.push.new.self.items ≡ c.args.digits.now.items ++ n % 10 ∷ [] = search rules in
    let grown : c.push.new.self.items ++ low_digits (n / 10) ≡ c.args.digits.now.items ++ low_digits n =
    ap (λ l. l ++ low_digits (n / 10)) pushed
    ∙ append_assoc c.args.digits.now.items (n % 10 ∷ []) (low_digits (n / 10))
    ∙ ap (λ l. c.args.digits.now.items ++ l) (sym (low_step n some)) in
    subst (λ (l : List ℕ). OnOk c.push_digits.result (c.push_digits.new.digits.items ≡ l)) grown c.push_digits.ensures
