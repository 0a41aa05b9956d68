use Rattle.std.proofs.Common.{length}
use Rattle.bridge_text.proofs.products.+push_product.Given as goal

abbrev pub decreases-push_product : goal.decreases-push_product
decreases-push_product l = length l.digits.now
