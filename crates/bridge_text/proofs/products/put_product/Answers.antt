use Rattle.std.proofs.Common.{ℕ, ◌*◌, ◌≡◌, ◌++◌, OnOk, subst, arith}
use Rattle.edl_layout.specs.Shape.{elements}
use Rattle.bridge_text.specs.Products.{decimal_text}
use Rattle.bridge_text.proofs.ProductLaws.{low_one}
use Rattle.bridge_text.proofs.products.put_product.Goals as goal

pub returns : goal.returns
returns c =
    let whole : 1 * elements c.args.dims.now ≡ elements c.args.dims.now = omega arith in
    subst (λ (k : ℕ). OnOk c.put_product_with.result (c.put_product_with.new.out.items ≡ c.args.out.now.items ++ decimal_text k))
    whole (c.put_product_with.ensures 1 low_one (omega arith))
