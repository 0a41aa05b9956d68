-- One more of what is still to come.
use Rattle.std.proofs.Common.{ℕ, suc, ◌≡◌, ◌<◌, ◌+◌, ◌-◌, ◌%◌, List, [], ◌∷◌, ◌++◌, map, ap, sym, ◌∙◌, arith}
use Rattle.std.proofs.Common.{append_assoc}
use Rattle.std.specs.List.{range_with_len}
use Rattle.sample_script.specs.Sample.{next_number, call_line, call_lines}

left : (place n : ℕ) → place < n → n - place ≡ suc (n - (place + 1))
left place n h = omega (arith, h)

more_of : (items more rest whole now left : List ℕ) → now ≡ items ++ more → left ≡ more ++ rest → items ++ left ≡ whole → now ++ rest ≡ whole
more_of items more rest whole now left p q r = ap (λ l. l ++ rest) p ∙ append_assoc items more rest ∙ ap (λ l. items ++ l) (sym q) ∙ r

pub calls_more : (place x n number : ℕ) (items line now whole : List ℕ) → place < n → number ≡ next_number x → line ≡ call_line place number
    → now ≡ items ++ line → items ++ call_lines place x (n - place) ≡ whole → now ++ call_lines (place + 1) number (n - (place + 1)) ≡ whole
calls_more place x n number items line now whole h is line_is p r =
    more_of items line (call_lines (place + 1) number (n - (place + 1))) whole now (call_lines place x (n - place)) p
    (ap (λ k. call_lines place x k) (left place n h) ∙ ap (λ y. call_line place y ++ call_lines (place + 1) y (n - (place + 1))) (sym is)
    ∙ ap (λ l. l ++ call_lines (place + 1) number (n - (place + 1))) (sym line_is)) r

pub bytes_more : (place n byte : ℕ) (items now whole : List ℕ) → place < n → byte ≡ place % 256 → now ≡ items ++ byte ∷ []
    → items ++ map (λ j. j % 256) (range_with_len place (n - place)) ≡ whole → now ++ map (λ j. j % 256) (range_with_len (place + 1) (n - (place + 1))) ≡ whole
bytes_more place n byte items now whole h is p r =
    more_of items (byte ∷ []) (map (λ j. j % 256) (range_with_len (place + 1) (n - (place + 1)))) whole now (map (λ j. j % 256) (range_with_len place (n - place))) p
    (ap (λ k. map (λ j. j % 256) (range_with_len place k)) (left place n h) ∙ ap (λ b. b ∷ map (λ j. j % 256) (range_with_len (place + 1) (n - (place + 1)))) (sym is)) r
