-- Tests of the next symbol, by their parts.
use Rattle.std.proofs.Common.{◌≡◌, List, [], ◌∷◌, refl}
use Rattle.std.specs.Prelude.{◌||◌}
use Rattle.edl_grammar.specs.Symbols.{Lexed}
use Rattle.edl_grammar.specs.Parser.{sees, is_word, is_mark, is_name, is_int_word, is_sign, is_plain, is_named, begins_type, begins_trusted, begins_untrusted, begins_item}

pub sees_int : (ss : List Lexed) → sees is_int_word ss ≡ (sees (is_word "char") ss || sees (is_word "short") ss || sees (is_word "int") ss || sees (is_word "long") ss)
sees_int [] = refl
sees_int (s ∷ ss) = refl

pub sees_sign : (ss : List Lexed) → sees is_sign ss ≡ (sees (is_word "signed") ss || sees (is_word "unsigned") ss)
sees_sign [] = refl
sees_sign (s ∷ ss) = refl

pub sees_plain : (ss : List Lexed) → sees is_plain ss ≡ (sees (is_word "void") ss || sees (is_word "float") ss || sees (is_word "double") ss)
sees_plain [] = refl
sees_plain (s ∷ ss) = refl

pub sees_named : (ss : List Lexed) → sees is_named ss ≡ (sees (is_word "struct") ss || sees (is_word "enum") ss || sees (is_word "union") ss || sees is_name ss)
sees_named [] = refl
sees_named (s ∷ ss) = refl

pub sees_type : (ss : List Lexed) → sees begins_type ss ≡ (sees (is_word "const") ss || sees is_plain ss || sees is_int_word ss || sees is_sign ss || sees is_named ss)
sees_type [] = refl
sees_type (s ∷ ss) = refl

pub sees_trusted : (ss : List Lexed) → sees begins_trusted ss ≡ (sees (is_word "include") ss || sees (is_word "public") ss || sees begins_type ss)
sees_trusted [] = refl
sees_trusted (s ∷ ss) = refl

pub sees_untrusted : (ss : List Lexed) → sees begins_untrusted ss ≡ (sees (is_word "include") ss || sees (is_mark "[") ss || sees begins_type ss)
sees_untrusted [] = refl
sees_untrusted (s ∷ ss) = refl

pub sees_item : (ss : List Lexed) → sees begins_item ss ≡ (sees (is_word "include") ss || sees (is_word "from") ss || sees (is_word "enum") ss || sees (is_word "struct") ss || sees (is_word "union") ss || sees (is_word "trusted") ss || sees (is_word "untrusted") ss)
sees_item [] = refl
sees_item (s ∷ ss) = refl
