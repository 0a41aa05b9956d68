use Rattle.std.proofs.Common.{ℕ, ◌-◌, ◌+◌, ◌*◌, ◌<◌, ◌≡◌, ◌++◌, length, take, drop, OnOk, ap, subst, sym, ◌∙◌, arith}
use Rattle.edl_layout.specs.Shape.{elements}
use Rattle.bridge_text.specs.Products.{low_digits, decimal_text}
use Rattle.bridge_text.proofs.ProductLaws.{elements_behind, regrouped}
use Rattle.bridge_text.proofs.products.+put_product_with.Goals as goal

pub returns-in_ok-push_product-in-len1-up : goal.returns-in_ok-push_product-in-len1-up
returns-in_ok-push_product-in-len1-up t c = λ n e some.
    let f = c.unwrap_or-factor.result in
    let rest = take (length c.args.dims.now - 1) (drop 1 c.args.dims.now) in
    let first : elements c.args.dims.now ≡ f * elements rest =
    elements_behind c.args.dims.now _ c.in-len1-up.len_at_least ∙ ap (λ x. x * elements rest) (sym c.unwrap_or-factor.ensures) in
    let pushed : c.push_product.new.product.items ≡ c.new-product.result.items ++ low_digits (n * f + 0) = c.in_ok-push_product-in-len1-up.ensures n e in
    let none : n * f + 0 ≡ n * f = omega arith in
    let product : c.deref.result.now ≡ low_digits (n * f) =
    c.deref.ensures.value ∙ pushed ∙ ap (λ l. l ++ low_digits (n * f + 0)) c.new-product.ensures.items ∙ ap low_digits none in
    let positive : 0 < n * f = grind arith in
    subst (λ (k : ℕ). OnOk c.put_product_with.result (c.put_product_with.new.out.items ≡ c.args.out.now.items ++ decimal_text k))
    (regrouped n f (elements c.args.dims.now) (elements rest) first)
    (c.put_product_with.ensures (n * f) product positive)
