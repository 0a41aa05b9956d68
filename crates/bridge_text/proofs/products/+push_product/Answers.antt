use Rattle.std.proofs.Common.{rules, ℕ, ◌+◌, ◌*◌, ◌/◌, ◌%◌, ◌≡◌, List, [], ◌∷◌, ◌++◌, OnOk, subst, ◌∙◌}
use Rattle.bridge_text.specs.Products.{low_digits}
use Rattle.bridge_text.proofs.ProductLaws.{front, no_digits, carried, product_grows}
use Rattle.bridge_text.proofs.products.+push_product.Goals as goal

pub returns-in-empty : goal.returns-in-empty
returns-in-empty t c = λ n e.
    let none : n ≡ 0 = no_digits c.args.digits.now n c.in-empty.len_below e in
    subst (λ (k : ℕ). OnOk c.push_digits.result (c.push_digits.new.digits.items ≡ c.args.product.now.items ++ low_digits k))
    (carried n c.args.factor c.args.carry none) c.push_digits.ensures

pub returns-in_ok-push-in-len1-up : goal.returns-in_ok-push-in-len1-up
returns-in_ok-push-in-len1-up t c = λ n e.
    let split = front c.args.digits.now n c.in-len1-up.len_at_least e in
    let digit : c.from.result ≡ n % 10 = c.from.ensures ∙ split.first in
    let pushed : c.push.new.self.items ≡ c.args.product.now.items ++ (c.from.result * c.from-in-len1-up.result + c.args.carry) % 10 ∷ [] = search rules in
    subst (λ (l : List ℕ). OnOk c.push_product.result (c.push_product.new.product.items ≡ l))
    (product_grows c.args.product.now.items c.push.new.self.items n c.args.factor c.args.carry c.from.result c.from-in-len1-up.result
    split.some c.requires.factor digit c.from-in-len1-up.ensures pushed)
    (c.push_product.ensures (n / 10) split.others)
