use Rattle.std.proofs.Common.{◌∙◌, sym, ap, ℕ, List, [], ◌∷◌, ◌++◌, Bool}
use Rattle.broken_rules.specs.Breaches.{first_breach}
use Rattle.attr_terms.specs.Rules as rules
use Rattle.std.specs.List.{flat_map}
use Rattle.std.specs.Option.{option_or}
use Rattle.edl_grammar.specs.declared.Declared.{Declared}
use Rattle.edl_grammar.specs.declared.EnumValue.{EnumValue}
use Rattle.edl_grammar.specs.Files.{token_of}
use Rattle.edl_layout.specs.Meaning.{members_of}
use Rattle.broken_rules.specs.Breaches.{breach_of}
use Rattle.broken_rules.proofs.Firsts.{breach-front, breach-rest, breach-append}
use Rattle.broken_rules.proofs.type_rules.type_breach.Goals as goal

pub returns-then-is_some : goal.returns-then-is_some
returns-then-is_some c = λ ts vs h k.
    breach-front (rules.row 31 (rules.is_second_name ts (rules.type_name c.args.decl.now)) (token_of c.args.decl.now) ∷ [])
    (flat_map (rules.member_rows (members_of c.args.decl.now)) (members_of c.args.decl.now) ++ flat_map (rules.value_rows vs) (rules.values_of c.args.decl.now)) c.row-own.result
    (c.row-own.ensures ∙ ap (λ (b : Bool). breach_of (rules.row 31 b c.token_of.result)) (c.is_second_type.ensures ts h) ∙ ap (λ (n : ℕ). breach_of (rules.row 31 (rules.is_second_name ts (rules.type_name c.args.decl.now)) n)) c.token_of.ensures)
    (sym c.if-is_some.ensures)

pub returns : goal.returns
returns c = λ ts vs h k.
    breach-rest (rules.row 31 (rules.is_second_name ts (rules.type_name c.args.decl.now)) (token_of c.args.decl.now) ∷ [])
    (flat_map (rules.member_rows (members_of c.args.decl.now)) (members_of c.args.decl.now) ++ flat_map (rules.value_rows vs) (rules.values_of c.args.decl.now)) c.row-own.result c.or.result
    (c.row-own.ensures ∙ ap (λ (b : Bool). breach_of (rules.row 31 b c.token_of.result)) (c.is_second_type.ensures ts h) ∙ ap (λ (n : ℕ). breach_of (rules.row 31 (rules.is_second_name ts (rules.type_name c.args.decl.now)) n)) c.token_of.ensures)
    (sym c.if-is_some.ensures)
    (c.or.ensures
    ∙ ap (λ o. option_or o c.values_breach.result) (c.in_ok-of_member.ensures ∙ ap (λ (ms : List Declared). first_breach (flat_map (rules.member_rows ms) ms)) c.members_of.ensures)
    ∙ ap (option_or (first_breach (flat_map (rules.member_rows (members_of c.args.decl.now)) (members_of c.args.decl.now)))) (c.values_breach.ensures vs k ∙ ap (λ (xs : List EnumValue). first_breach (flat_map (rules.value_rows vs) xs)) c.values_of.ensures)
    ∙ sym (breach-append (flat_map (rules.member_rows (members_of c.args.decl.now)) (members_of c.args.decl.now)) (flat_map (rules.value_rows vs) (rules.values_of c.args.decl.now))))
