use Rattle.std.proofs.Common.{length}
use Rattle.bridge_text.proofs.products.+put_product_with.Given as goal

abbrev pub decreases-put_product_with : goal.decreases-put_product_with
decreases-put_product_with l = length l.dims.now
