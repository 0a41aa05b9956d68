use Rattle.std.proofs.Common.{rules, ◌+◌, ◌%◌, ◌/◌, ◌≡◌, [], ◌∷◌, ◌++◌, get_or, ap, sym, ◌∙◌, append-nil}
use Rattle.bridge_text.specs.Products.{digit_bytes}
use Rattle.bridge_text.proofs.ProductLaws.{front, no_digits, no_bytes, bytes_grow}
use Rattle.bridge_text.proofs.products.+put_digits.Goals as goal

pub returns-in-empty : goal.returns-in-empty
returns-in-empty t c = λ n e.
    let none : digit_bytes n ≡ [] = no_bytes n (no_digits c.args.digits.now n c.in-empty.len_below e) in
    sym (append-nil c.args.out.now.items) ∙ ap (λ l. c.args.out.now.items ++ l) (sym none)

pub returns-in_ok-push-in-len1-up : goal.returns-in_ok-push-in-len1-up
returns-in_ok-push-in-len1-up t c = λ n e.
    let split = front c.args.digits.now n c.in-len1-up.len_at_least e in
    let pushed : c.push.new.self.items ≡ c.put_digits.new.out.items ++ (48 + get_or c.args.digits.now 0 0 % 10) ∷ [] = search rules in
    bytes_grow c.args.out.now.items c.put_digits.new.out.items c.push.new.self.items n (get_or c.args.digits.now 0 0)
    split.some split.first (c.in_ok-put_digits-in-len1-up.ensures (n / 10) split.others) pushed
