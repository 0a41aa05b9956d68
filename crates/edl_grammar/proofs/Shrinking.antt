-- What a loop reads in one turn is not empty.
use Rattle.std.proofs.Common.{refl}
use Rattle.edl_grammar.specs.Production.{Production}
use Rattle.edl_grammar.specs.Parser.{Parser, is_mark}
use Rattle.edl_grammar.specs.Parser as parse
use Rattle.edl_grammar.proofs.Agrees.{Agrees, Ends, bind_agrees}
use Rattle.edl_grammar.proofs.Tokens.{mark_agrees, name_agrees}
use Rattle.edl_grammar.proofs.Heads.{then_begins, mark_begins}
use Rattle.edl_grammar.proofs.Types.{written_begins}
use Rattle.edl_grammar.proofs.Many.{Shrinks}
use Rattle.edl_grammar.proofs.Productions.{shrinks, dim_agrees, dim_begins, attribute_agrees, param_agrees, member_agrees, trusted_item_agrees, untrusted_item_agrees, item_agrees, trusted_begins, untrusted_begins, item_begins}
use Rattle.edl_grammar.proofs.Theorem.{apart}

after_comma_shrinks : {A : Type 0} {P : Production A} {p : Parser A} {ends : Ends} → Agrees P p ends → Shrinks (is_mark ",") (parse.after_comma p)
after_comma_shrinks h = shrinks (is_mark ",") (bind_agrees (mark_agrees ",") (λ _. h) (λ n back rest b d e. refl)) (then_begins (is_mark ",") (mark_begins "," (is_mark ",") refl))

pub dim_shrinks : Shrinks (is_mark "[") parse.dim
dim_shrinks = shrinks (is_mark "[") dim_agrees dim_begins

pub member_shrinks : Shrinks parse.begins_type parse.member
member_shrinks = shrinks parse.begins_type member_agrees (then_begins parse.begins_type (then_begins parse.begins_type written_begins))

pub name_shrinks : Shrinks (is_mark ",") (parse.after_comma parse.name)
name_shrinks = after_comma_shrinks name_agrees

pub attribute_shrinks : Shrinks (is_mark ",") (parse.after_comma parse.attribute)
attribute_shrinks = after_comma_shrinks attribute_agrees

pub param_shrinks : Shrinks (is_mark ",") (parse.after_comma parse.param)
param_shrinks = after_comma_shrinks param_agrees

pub trusted_shrinks : Shrinks parse.begins_trusted parse.trusted_item
trusted_shrinks = shrinks parse.begins_trusted (trusted_item_agrees apart) (trusted_begins apart)

pub untrusted_shrinks : Shrinks parse.begins_untrusted parse.untrusted_item
untrusted_shrinks = shrinks parse.begins_untrusted (untrusted_item_agrees apart) (untrusted_begins apart)

pub item_shrinks : Shrinks parse.begins_item parse.item
item_shrinks = shrinks parse.begins_item (item_agrees apart) (item_begins apart)
