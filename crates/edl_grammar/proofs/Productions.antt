-- Each production but the types, in the order of the grammar.
use Rattle.std.proofs.Common.{◌<◌, ◌+◌, length, length-append, arith, ◌≡◌, ℕ, Bool, true, false, not, List, [], ◌∷◌, ◌++◌, refl, sym, ◌∙◌, ap, subst, Some, None, Ok, Err}
use Rattle.std.specs.Prelude.{codes, slice_get, ◌||◌}
use Prim.Native.String.{String}
use Rattle.edl_grammar.specs.declared.EdlFile.{EdlFile}
use Rattle.edl_grammar.specs.declared.Attribute.{Attribute}
use Rattle.edl_grammar.specs.declared.AttrValue.{AttrValue}
use Rattle.edl_grammar.specs.declared.AttrValue.TheVariants as value
use Rattle.edl_grammar.specs.declared.TypeDecl.{TypeDecl}
use Rattle.edl_grammar.specs.declared.TypeDecl.TheVariants as decl
use Rattle.edl_grammar.specs.declared.IncludePlace.{IncludePlace}
use Rattle.edl_grammar.specs.declared.IncludePlace.TheVariants as place
use Rattle.edl_grammar.specs.Symbols.{Symbol, Word, Mark, Lexed, reserved}
use Rattle.edl_grammar.specs.Production.{Production, Then}
use Rattle.edl_grammar.specs.Production as spell
use Rattle.edl_grammar.specs.Grammar.{list_of, nothing, all_of, function, enumeration_of, enumerator}
use Rattle.edl_grammar.specs.Grammar as grammar
use Rattle.edl_grammar.specs.Parser.{Parser, Outcome, and_then, sees, is_word, is_mark, is_name, is_number, begins_type, is_switchless}
use Rattle.edl_grammar.specs.Parser as parse
use Rattle.edl_grammar.proofs.Agrees.{Agrees, anywhere, Ends, before, Begins, begins_some, agrees_where, agrees_as, pure_agrees, bind_agrees, optional_agrees, given_agrees, many_agrees, either_agrees, both_true}
use Rattle.edl_grammar.proofs.Tokens.{word_agrees, mark_agrees, name_agrees, number_agrees, quoted_agrees, mark_is, word_is}
use Rattle.edl_grammar.proofs.Heads.{Skips, Leads, then_begins, then_skips, either_begins, either_skips, word_begins, word_skips, mark_begins, number_begins, name_begins, name_skips, leads_keeps, keeps_pure, then_leads, mark_leads, name_leads, given_leads, many_keeps, is_name_true, or_right}
use Rattle.edl_grammar.proofs.Types.{at_name, ends_type_name, written_agrees, written_begins, written_skips, is_false}

-- ---- lists

-- a first one, and a list of more, is the list that begins with it
pub as_front : {A : Type 0} (a : A) (r : Outcome (List A)) → and_then r (λ as' rest. Ok (a ∷ as', rest)) ≡ parse.with_front (a ∷ []) r
as_front a (Ok x) = refl
as_front a (Err x) = refl

-- one or more, each of which ends before a comma
pub separated_agrees : {A : Type 0} {P : Production A} {p : Parser A} {ends : Ends} → Agrees P p ends → ((n : ℕ) (rest : List Lexed) → ends (record { token = n; symbol = Mark 44 } ∷ rest) ≡ true)
    → ((rest : List Lexed) → sees (is_mark ",") rest ≡ true → ends rest ≡ true) → Agrees (spell.separated P) (parse.separated p) (before (is_mark ",") ends)
separated_agrees {P = P} {ends = ends} h comma on =
    bind_agrees h (λ a.
    agrees_as (λ ss. as_front a (parse.many (is_mark ",") (parse.◌>>◌ (parse.mark ",") _) ss)) (
    bind_agrees (many_agrees (is_mark ",") (bind_agrees (mark_agrees ",") (λ _. h) (λ n back rest b d e. refl)) (then_begins (is_mark ",") (mark_begins "," (is_mark ",") refl)) on)
    (λ as'. agrees_where last (λ rest e. refl) (pure_agrees (a ∷ as'))) (λ as'. keeps_pure (a ∷ as') last last (λ rest e. e))))
    (λ a. many_keeps ends last (then_leads ends (mark_leads "," ends comma)) (λ as'. keeps_pure (a ∷ as') ends last (λ rest e. (both_true (not (sees (is_mark ",") rest)) (ends rest) e).1)))
  where
    last : Ends
    last = before (is_mark ",") ends

abbrev pub no_comma : Ends
no_comma = before (is_mark ",") anywhere

pub names_agree : Agrees (spell.separated spell.name) (parse.separated parse.name) no_comma
names_agree = separated_agrees name_agrees (λ n rest. refl) (λ rest e. refl)

-- ---- declarations

pub dim_agrees : Agrees grammar.dim parse.dim anywhere
dim_agrees =
    bind_agrees (mark_agrees "[") (λ _.
    bind_agrees (optional_agrees is_number number_agrees (number_begins is_number (λ n. refl))) (λ n.
    bind_agrees (mark_agrees "]") (λ _. pure_agrees n) (λ a back rest b d e. refl))
    (λ n. leads_keeps (before is_number anywhere) anywhere (then_leads (before is_number anywhere) (mark_leads "]" (before is_number anywhere) (λ n rest. refl)))))
    (λ a back rest b d e. refl)

pub dim_begins : Begins grammar.dim (is_mark "[")
dim_begins = then_begins (is_mark "[") (mark_begins "[" (is_mark "[") refl)

-- the ends of a declaration
abbrev pub no_dim : Ends
no_dim = before (is_mark "[") anywhere

pub declared_agrees : (attrs : List Attribute) → Agrees (grammar.declared attrs) (parse.declared attrs) no_dim
declared_agrees attrs =
    bind_agrees written_agrees (λ w.
    bind_agrees name_agrees (λ n.
    bind_agrees (many_agrees (is_mark "[") dim_agrees dim_begins (λ rest e. refl))
    (λ dims. agrees_where no_dim (λ rest e. refl) (pure_agrees (record { token = n.token; name = n.name; written = w; dims = dims; attrs = attrs })))
    (λ a back rest b d e. rw d.0 e))
    (λ a back rest b d e. refl))
    (λ w. leads_keeps at_name no_dim (then_leads at_name (name_leads at_name (λ n w rest e. ends_type_name w e))))

attr_value : Production AttrValue
attr_value = spell.◌>>◌ (spell.mark "=") (spell.◌<|>◌ grammar.numeral grammar.named)

pub numeral_or_name : Agrees (spell.◌<|>◌ grammar.numeral grammar.named) (parse.if_next is_number (parse.◌>>=◌ parse.number (λ n. parse.pure (value.Number n))) (parse.◌>>=◌ parse.name (λ x. parse.pure (value.Named x)))) anywhere
numeral_or_name =
    either_agrees is_number (bind_agrees number_agrees (λ n. pure_agrees (value.Number n)) (λ a back rest b d e. refl))
    (bind_agrees name_agrees (λ x. pure_agrees (value.Named x)) (λ a back rest b d e. refl))
    (then_begins is_number (number_begins is_number (λ n. refl)))
    (λ front rest a d e. then_skips is_number (name_skips is_number (λ w e. refl)) front rest a d)

pub attribute_agrees : Agrees grammar.attribute parse.attribute (before (is_mark "=") anywhere)
unfolding parse.attribute
attribute_agrees =
    bind_agrees name_agrees (λ n.
    bind_agrees (optional_agrees (is_mark "=") (bind_agrees (mark_agrees "=") (λ _. numeral_or_name) (λ a back rest b d e. refl)) (then_begins (is_mark "=") (mark_begins "=" (is_mark "=") refl)))
    (λ v. agrees_where (before (is_mark "=") anywhere) (λ rest e. refl) (pure_agrees (record { token = n.token; name = n.name; value = v }))) (λ a back rest b d e. rw d.0 e))
    (λ a back rest b d e. refl)

-- what is followed by a comma or a bracket
no_value_at_comma : (rest : List Lexed) → sees (is_mark ",") rest ≡ true → before (is_mark "=") anywhere rest ≡ true
no_value_at_comma [] e = refl
no_value_at_comma (x ∷ xs) e = at x.symbol e
  where
    at : (s : Symbol) → is_mark "," s ≡ true → before (is_mark "=") anywhere (record { token = x.token; symbol = s } ∷ xs) ≡ true
    at s h = rw (mark_is "," s h) refl

pub attributes_agree : Agrees grammar.attributes parse.attributes anywhere
unfolding parse.attributes
attributes_agree =
    bind_agrees (mark_agrees "[") (λ _.
    bind_agrees (separated_agrees attribute_agrees (λ n rest. refl) no_value_at_comma) (λ attrs.
    bind_agrees (mark_agrees "]") (λ _. pure_agrees attrs) (λ a back rest b d e. refl))
    (λ attrs. leads_keeps last anywhere (then_leads last (mark_leads "]" last (λ n rest. refl)))))
    (λ a back rest b d e. refl)
  where
    last : Ends
    last = before (is_mark ",") (before (is_mark "=") anywhere)

pub no_bracket : (attrs : List Attribute) → Leads (grammar.declared attrs) (before (is_mark "[") anywhere)
no_bracket attrs = then_leads (before (is_mark "[") anywhere) (λ front rest a d. rw (written_skips (is_mark "[") (λ w. refl) front rest a d) refl)

pub param_agrees : Agrees grammar.param parse.param no_dim
param_agrees =
    bind_agrees (optional_agrees (is_mark "[") attributes_agree (then_begins (is_mark "[") (mark_begins "[" (is_mark "[") refl)))
    (λ attrs. declared_agrees (list_of attrs)) (λ attrs. leads_keeps (before (is_mark "[") anywhere) no_dim (no_bracket (list_of attrs)))

pub member_agrees : Agrees grammar.member parse.member anywhere
member_agrees =
    bind_agrees (declared_agrees []) (λ m. bind_agrees (mark_agrees ";") (λ _. pure_agrees m) (λ a back rest b d e. refl))
    (λ m. leads_keeps no_dim anywhere (then_leads no_dim (mark_leads ";" no_dim (λ n rest. refl))))

-- `}` and `;`, and the value
closing_agrees : {A : Type 0} (a : A) → Agrees (spell.◌>>◌ (spell.mark "}") (spell.◌>>◌ (spell.mark ";") (spell.pure a))) (parse.◌>>◌ (parse.mark "}") (parse.◌>>◌ (parse.mark ";") (parse.pure a))) anywhere
closing_agrees a =
    bind_agrees (mark_agrees "}") (λ _. bind_agrees (mark_agrees ";") (λ _. pure_agrees a) (λ a back rest b d e. refl)) (λ a back rest b d e. refl)

closing_leads : {A : Type 0} (a : A) (ends : Ends) → ((n : ℕ) (rest : List Lexed) → ends (record { token = n; symbol = Mark 125 } ∷ rest) ≡ true) → Leads (spell.◌>>◌ (spell.mark "}") (spell.◌>>◌ (spell.mark ";") (spell.pure a))) ends
closing_leads a ends t = then_leads ends (mark_leads "}" ends t)

pub members_agree : Agrees grammar.members parse.members anywhere
unfolding parse.members
members_agree =
    bind_agrees (mark_agrees "{") (λ _.
    bind_agrees (many_agrees begins_type member_agrees (then_begins begins_type (then_begins begins_type written_begins)) (λ rest e. refl)) closing_agrees
    (λ ms. leads_keeps (before begins_type anywhere) anywhere (closing_leads ms (before begins_type anywhere) (λ n rest. refl))))
    (λ a back rest b d e. refl)

structure_agrees : Agrees grammar.structure parse.structure anywhere
structure_agrees =
    bind_agrees (word_agrees "struct") (λ _. bind_agrees name_agrees (λ n.
    bind_agrees members_agree (λ ms. pure_agrees (decl.Structure n.token n.name ms)) (λ a back rest b d e. refl)) (λ a back rest b d e. refl)) (λ a back rest b d e. refl)

union_agrees : Agrees grammar.union parse.union anywhere
union_agrees =
    bind_agrees (word_agrees "union") (λ _. bind_agrees name_agrees (λ n.
    bind_agrees members_agree (λ ms. pure_agrees (decl.Union n.token n.name ms)) (λ a back rest b d e. refl)) (λ a back rest b d e. refl)) (λ a back rest b d e. refl)

-- ---- enumerations

literal_agrees : Agrees grammar.literal parse.literal anywhere
literal_agrees =
    bind_agrees (mark_agrees "=") (λ _.
    bind_agrees (given_agrees (is_mark "-") (mark_agrees "-") (mark_begins "-" (is_mark "-") refl)) (λ negative.
    bind_agrees number_agrees (λ n. pure_agrees (record { negative = negative; number = n })) (λ a back rest b d e. refl))
    (λ negative. leads_keeps (before (is_mark "-") anywhere) anywhere (then_leads (before (is_mark "-") anywhere) (λ front rest n d. rw d.1 refl))))
    (λ a back rest b d e. refl)

pub enum_value_agrees : Agrees grammar.enum_value parse.enum_value (before (is_mark "=") anywhere)
enum_value_agrees =
    bind_agrees name_agrees (λ n.
    bind_agrees (optional_agrees (is_mark "=") literal_agrees (then_begins (is_mark "=") (mark_begins "=" (is_mark "=") refl)))
    (λ l. agrees_where (before (is_mark "=") anywhere) (λ rest e. refl) (pure_agrees (enumerator n l))) (λ a back rest b d e. rw d.0 e))
    (λ a back rest b d e. refl)

-- ---- how functions begin

-- a test that more symbols pass
wider : {A : Type 0} {P : Production A} (test : Symbol → Bool) → ((s : Symbol) → begins_type s ≡ true → test s ≡ true) → Begins P begins_type → Begins P test
wider test to begins front rest a d = at (front ++ rest) (begins front rest a d)
  where
    at : (ss : List Lexed) → sees begins_type ss ≡ true → sees test ss ≡ true
    at [] e = absurd cc
    at (x ∷ xs) e = to x.symbol e

trusted_type : (s : Symbol) → begins_type s ≡ true → parse.begins_trusted s ≡ true
trusted_type s e = or_right (is_word "include" s || is_word "public" s) (begins_type s) e

untrusted_type : (s : Symbol) → begins_type s ≡ true → parse.begins_untrusted s ≡ true
untrusted_type s e = or_right (is_word "include" s || is_mark "[" s) (begins_type s) e

written_no : (spelling : String) (k : ℕ) → slice_get reserved k ≡ Some (codes spelling) → begins_type (Word (codes spelling)) ≡ false → Skips grammar.written (is_word spelling)
written_no spelling k at differs front rest w d = go (front ++ rest) (written_begins front rest w d)
  where
    by : (s : Symbol) (b : Bool) → is_word spelling s ≡ b → begins_type s ≡ true → b ≡ false
    by s false h e = refl
    by s true h e = let f : begins_type (Word (codes spelling)) ≡ true = subst (λ z. begins_type z ≡ true) (word_is spelling s h) e in absurd (clash f)
      where
        clash : begins_type (Word (codes spelling)) ≡ true → ⊥
        clash f = let g : true ≡ false = sym f ∙ differs in cc

    go : (ss : List Lexed) → sees begins_type ss ≡ true → sees (is_word spelling) ss ≡ false
    go [] e = refl
    go (x ∷ xs) e = by x.symbol (is_word spelling x.symbol) refl e

written_not_public : Skips grammar.written (is_word "public")
written_not_public = written_no "public" 6 refl refl

trusted_not_include : Skips grammar.trusted_function (is_word "include")
trusted_not_include front rest f d = is_false (sees (is_word "include") (front ++ rest)) (leads front rest f d)
  where
    no : Ends
    no ss = not (sees (is_word "include") ss)

    leads : Leads grammar.trusted_function no
    leads = given_leads no (λ f r n h. rw (word_skips "public" (is_word "include") refl f r n h) refl) (λ _. then_leads no (then_leads no (λ f r w h. rw (written_no "include" 1 refl refl f r w h) refl)))

untrusted_not_include : Skips grammar.untrusted_function (is_word "include")
untrusted_not_include front rest f d = is_false (sees (is_word "include") (front ++ rest)) (leads front rest f d)
  where
    no : Ends
    no ss = not (sees (is_word "include") ss)

    leads : Leads grammar.untrusted_function no
    leads = given_leads no (then_leads no (mark_leads "[" no (λ n rest. refl))) (λ _. then_leads no (then_leads no (λ f r w h. rw (written_no "include" 1 refl refl f r w h) refl)))

-- ---- what is proved apart: productions that need another form to be read with one symbol of view

-- at a mark
abbrev pub at_mark : String → Ends
at_mark spelling = sees (is_mark spelling)

pub record Apart : Type 0 where
  pub values : Agrees grammar.enum_values parse.enum_values (at_mark "}")
  pub params : Agrees grammar.params parse.params (at_mark ")")
  pub tail : Agrees grammar.tail parse.tail (at_mark ";")

module _ (apart : Apart) where
  enumeration_agrees : Agrees grammar.enumeration parse.enumeration anywhere
  unfolding parse.enumeration
  enumeration_agrees =
      bind_agrees (word_agrees "enum") (λ keyword.
      bind_agrees (optional_agrees is_name name_agrees (name_begins is_name is_name_true)) (λ n.
      bind_agrees (mark_agrees "{") (λ _.
      bind_agrees apart.values (λ vs.
      bind_agrees (mark_agrees "}") (λ _. bind_agrees (mark_agrees ";") (λ _. pure_agrees (enumeration_of keyword n vs)) (λ a back rest b d e. refl)) (λ a back rest b d e. refl))
      (λ vs. leads_keeps (at_mark "}") anywhere (then_leads (at_mark "}") (mark_leads "}" (at_mark "}") (λ n rest. refl)))))
      (λ a back rest b d e. refl))
      (λ n. leads_keeps (before is_name anywhere) anywhere (then_leads (before is_name anywhere) (mark_leads "{" (before is_name anywhere) (λ n rest. refl)))))
      (λ a back rest b d e. refl)

  -- ---- functions

  func_agrees : Agrees grammar.func parse.func anywhere
  unfolding parse.func
  func_agrees =
      bind_agrees written_agrees (λ w.
      bind_agrees name_agrees (λ n.
      bind_agrees (mark_agrees "(") (λ _.
      bind_agrees apart.params (λ ps.
      bind_agrees (mark_agrees ")") (λ _. pure_agrees (record { result = w; name = n; params = ps })) (λ a back rest b d e. refl))
      (λ ps. leads_keeps (at_mark ")") anywhere (then_leads (at_mark ")") (mark_leads ")" (at_mark ")") (λ n rest. refl)))))
      (λ a back rest b d e. refl))
      (λ a back rest b d e. refl))
      (λ w. leads_keeps at_name anywhere (then_leads at_name (name_leads at_name (λ n w rest e. ends_type_name w e))))

  switchless_agrees : Agrees grammar.switchless parse.switchless anywhere
  switchless_agrees = word_agrees "transition_using_threads"

  -- ---- items

  include_agrees : (at : IncludePlace) → Agrees (grammar.include at) (parse.include at) anywhere
  include_agrees at =
      bind_agrees (word_agrees "include") (λ _.
      bind_agrees quoted_agrees (λ t. pure_agrees (record nothing { includes = record { token = t.token; text = t.name; place = at } ∷ [] })) (λ a back rest b d e. refl))
      (λ a back rest b d e. refl)

  import_names_agree : Agrees grammar.import_names parse.import_names no_comma
  import_names_agree =
      either_agrees (is_mark "*")
      (bind_agrees (mark_agrees "*") (λ _. agrees_where no_comma (λ rest e. refl) (pure_agrees None)) (λ a back rest b d e. refl))
      (bind_agrees names_agree (λ names. agrees_where no_comma (λ rest e. refl) (pure_agrees (Some names))) (λ a back rest b d e. rw d.0 e))
      (then_begins (is_mark "*") (mark_begins "*" (is_mark "*") refl))
      (λ front rest a d e. then_skips (is_mark "*") (then_skips (is_mark "*") (name_skips (is_mark "*") (λ w h. refl))) front rest a d)

  import_agrees : Agrees grammar.«import» parse.«import» anywhere
  import_agrees =
      bind_agrees (word_agrees "from") (λ _.
      bind_agrees quoted_agrees (λ t.
      bind_agrees (word_agrees "import") (λ _.
      bind_agrees import_names_agree (λ names.
      bind_agrees (mark_agrees ";") (λ _. pure_agrees (record nothing { imports = record { token = t.token; text = t.name; names = names } ∷ [] })) (λ a back rest b d e. refl))
      (λ names. leads_keeps no_comma anywhere (then_leads no_comma (mark_leads ";" no_comma (λ n rest. refl)))))
      (λ a back rest b d e. refl))
      (λ a back rest b d e. refl))
      (λ a back rest b d e. refl)

  type_item_agrees : {P : Production TypeDecl} {p : Parser TypeDecl} → Agrees P p anywhere → Agrees (grammar.type_item P) (parse.type_item p) anywhere
  type_item_agrees h = bind_agrees h (λ t. pure_agrees (record nothing { types = t ∷ [] })) (λ a back rest b d e. refl)

  semicolon_agrees : {A : Type 0} (a : A) → Agrees (spell.◌>>◌ (spell.mark ";") (spell.pure a)) (parse.◌>>◌ (parse.mark ";") (parse.pure a)) anywhere
  semicolon_agrees a = bind_agrees (mark_agrees ";") (λ _. pure_agrees a) (λ a back rest b d e. refl)

  trusted_function_agrees : Agrees grammar.trusted_function parse.trusted_function anywhere
  trusted_function_agrees =
      bind_agrees (given_agrees (is_word "public") (word_agrees "public") (word_begins "public" (is_word "public") refl)) (λ is_public.
      bind_agrees func_agrees (λ head.
      bind_agrees (given_agrees is_switchless switchless_agrees (word_begins "transition_using_threads" is_switchless refl))
      (λ marked. semicolon_agrees (record nothing { trusted = function head is_public (record { allow = None; switchless = marked }) ∷ [] }))
      (λ marked. leads_keeps (before is_switchless anywhere) anywhere (then_leads (before is_switchless anywhere) (mark_leads ";" (before is_switchless anywhere) (λ n rest. refl)))))
      (λ a back rest b d e. refl))
      (λ is_public. leads_keeps no_public anywhere (then_leads no_public (then_leads no_public (λ front rest w d. rw (written_not_public front rest w d) refl))))
    where
      no_public : Ends
      no_public = before (is_word "public") anywhere

  convention_agrees : Agrees grammar.convention parse.convention anywhere
  convention_agrees = bind_agrees (mark_agrees "[") (λ _. bind_agrees (word_agrees "cdecl") (λ _. mark_agrees "]") (λ a back rest b d e. refl)) (λ a back rest b d e. refl)

  untrusted_function_agrees : Agrees grammar.untrusted_function parse.untrusted_function anywhere
  untrusted_function_agrees =
      bind_agrees (given_agrees (is_mark "[") convention_agrees (then_begins (is_mark "[") (mark_begins "[" (is_mark "[") refl))) (λ _.
      bind_agrees func_agrees (λ head.
      bind_agrees apart.tail (λ t. semicolon_agrees (record nothing { untrusted = function head false t ∷ [] }))
      (λ t. leads_keeps (at_mark ";") anywhere (then_leads (at_mark ";") (mark_leads ";" (at_mark ";") (λ n rest. refl)))))
      (λ a back rest b d e. refl))
      (λ _. leads_keeps bracket anywhere (then_leads bracket (then_leads bracket (λ front rest w d. rw (written_skips (is_mark "[") (λ w. refl) front rest w d) refl))))
    where
      bracket : Ends
      bracket = before (is_mark "[") anywhere

  pub trusted_item_agrees : Agrees grammar.trusted_item parse.trusted_item anywhere
  unfolding parse.trusted_item
  trusted_item_agrees =
      either_agrees (is_word "include") (include_agrees place.Trusted) trusted_function_agrees
      (then_begins (is_word "include") (word_begins "include" (is_word "include") refl))
      (λ front rest a d e. trusted_not_include front rest a d)

  pub untrusted_item_agrees : Agrees grammar.untrusted_item parse.untrusted_item anywhere
  unfolding parse.untrusted_item
  untrusted_item_agrees =
      either_agrees (is_word "include") (include_agrees place.Untrusted) untrusted_function_agrees
      (then_begins (is_word "include") (word_begins "include" (is_word "include") refl))
      (λ front rest a d e. untrusted_not_include front rest a d)

  -- the items as a list, and as one file
  as_items : (r : Outcome (List EdlFile)) → and_then r (λ fs. parse.◌>>◌ (parse.mark "}") (parse.◌>>◌ (parse.mark ";") (parse.pure (all_of fs))))
      ≡ and_then (and_then r (λ fs. parse.pure (all_of fs))) (λ f. parse.◌>>◌ (parse.mark "}") (parse.◌>>◌ (parse.mark ";") (parse.pure f)))
  as_items (Ok x) = refl
  as_items (Err x) = refl

  block_agrees : {P : Production EdlFile} {p : Parser EdlFile} (spelling : String) (test : Symbol → Bool) → test (Mark 125) ≡ false → Agrees P p anywhere → Begins P test
      → Agrees (grammar.block spelling P) (parse.block spelling test p) anywhere
  block_agrees {p = p} spelling test stop h begins =
      bind_agrees (word_agrees spelling) (λ _.
      bind_agrees (mark_agrees "{") (λ _.
      agrees_as (λ ss. as_items (parse.many test p ss))
      (bind_agrees (many_agrees test h begins (λ rest e. refl)) (λ items. closing_agrees (all_of items))
      (λ items. leads_keeps (before test anywhere) anywhere (closing_leads (all_of items) (before test anywhere) (λ n rest. rw stop refl)))))
      (λ a back rest b d e. refl))
      (λ a back rest b d e. refl)

  pub trusted_begins : Begins grammar.trusted_item parse.begins_trusted
  trusted_begins =
      either_begins parse.begins_trusted (then_begins parse.begins_trusted (word_begins "include" parse.begins_trusted refl))
      (given_leads (sees parse.begins_trusted) (word_begins "public" parse.begins_trusted refl) (λ _. then_begins parse.begins_trusted (then_begins parse.begins_trusted (wider parse.begins_trusted trusted_type written_begins))))

  pub untrusted_begins : Begins grammar.untrusted_item parse.begins_untrusted
  untrusted_begins =
      either_begins parse.begins_untrusted (then_begins parse.begins_untrusted (word_begins "include" parse.begins_untrusted refl))
      (given_leads (sees parse.begins_untrusted) (then_begins parse.begins_untrusted (mark_begins "[" parse.begins_untrusted refl)) (λ _. then_begins parse.begins_untrusted (then_begins parse.begins_untrusted (wider parse.begins_untrusted untrusted_type written_begins))))

  -- the items, from the last alternative to the first
  abbrev blocks : Production EdlFile
  blocks = spell.◌<|>◌ (grammar.block "trusted" grammar.trusted_item) (grammar.block "untrusted" grammar.untrusted_item)

  word_item : {B : Type 0} {F : ℕ → Production B} (spelling : String) (test : Symbol → Bool) → test (Word (codes spelling)) ≡ false → Skips (Then (spell.word spelling) F) test
  word_item spelling test t = then_skips test (word_skips spelling test t)

  type_word_item : {F : ℕ → Production TypeDecl} {G : TypeDecl → Production EdlFile} (spelling : String) (test : Symbol → Bool) → test (Word (codes spelling)) ≡ false → Skips (Then (Then (spell.word spelling) F) G) test
  type_word_item spelling test t = then_skips test (then_skips test (word_skips spelling test t))

  not_before : {A : Type 0} {P : Production A} (test : Symbol → Bool) → Skips P test → (front rest : List Lexed) (a : A) → P front a → anywhere rest ≡ true → sees test (front ++ rest) ≡ false
  not_before test h front rest a d e = h front rest a d

  blocks_skip : (test : Symbol → Bool) → test (Word (codes "trusted")) ≡ false → test (Word (codes "untrusted")) ≡ false → Skips blocks test
  blocks_skip test a b = either_skips test (word_item "trusted" test a) (word_item "untrusted" test b)

  pub item_agrees : Agrees grammar.item parse.item anywhere
  unfolding parse.item
  item_agrees =
      either_agrees inc (include_agrees place.Outside)
      (either_agrees fr import_agrees
      (either_agrees en (type_item_agrees enumeration_agrees)
      (either_agrees st (type_item_agrees structure_agrees)
      (either_agrees un (type_item_agrees union_agrees)
      (either_agrees tr (block_agrees "trusted" parse.begins_trusted refl trusted_item_agrees trusted_begins) (block_agrees "untrusted" parse.begins_untrusted refl untrusted_item_agrees untrusted_begins)
      (then_begins tr (word_begins "trusted" tr refl)) (not_before tr (word_item "untrusted" tr refl)))
      (then_begins un (then_begins un (word_begins "union" un refl))) (not_before un (blocks_skip un refl refl)))
      (then_begins st (then_begins st (word_begins "struct" st refl))) (not_before st (either_skips st (type_word_item "union" st refl) (blocks_skip st refl refl))))
      (then_begins en (then_begins en (word_begins "enum" en refl))) (not_before en (either_skips en (type_word_item "struct" en refl) (either_skips en (type_word_item "union" en refl) (blocks_skip en refl refl)))))
      (then_begins fr (word_begins "from" fr refl))
      (not_before fr (either_skips fr (type_word_item "enum" fr refl) (either_skips fr (type_word_item "struct" fr refl) (either_skips fr (type_word_item "union" fr refl) (blocks_skip fr refl refl))))))
      (then_begins inc (word_begins "include" inc refl))
      (not_before inc (either_skips inc (word_item "from" inc refl) (either_skips inc (type_word_item "enum" inc refl) (either_skips inc (type_word_item "struct" inc refl) (either_skips inc (type_word_item "union" inc refl) (blocks_skip inc refl refl))))))
    where
      inc : Symbol → Bool
      inc = is_word "include"

      fr : Symbol → Bool
      fr = is_word "from"

      en : Symbol → Bool
      en = is_word "enum"

      st : Symbol → Bool
      st = is_word "struct"

      un : Symbol → Bool
      un = is_word "union"

      tr : Symbol → Bool
      tr = is_word "trusted"

  pub item_begins : Begins grammar.item parse.begins_item
  item_begins =
      either_begins t (then_begins t (word_begins "include" t refl)) (either_begins t (then_begins t (word_begins "from" t refl))
      (either_begins t (then_begins t (then_begins t (word_begins "enum" t refl))) (either_begins t (then_begins t (then_begins t (word_begins "struct" t refl))) (either_begins t (then_begins t (then_begins t (word_begins "union" t refl)))
      (either_begins t (then_begins t (word_begins "trusted" t refl)) (then_begins t (word_begins "untrusted" t refl)))))))
    where
      t : Symbol → Bool
      t = parse.begins_item

  pub file_agrees : Agrees grammar.file parse.file anywhere
  file_agrees = block_agrees "enclave" parse.begins_item refl item_agrees item_begins

-- what is read is not empty
pub shrinks : {A : Type 0} {P : Production A} {p : Parser A} {ends : Ends} (test : Symbol → Bool) → Agrees P p ends → Begins P test → (ss rest : List Lexed) (a : A) → p ss ≡ Ok (a, rest) → length rest < length ss
shrinks test h begins ss rest a e =
    let x = h.ok ss rest a e in let long = begins_some test begins x.0 a x.2 in
    let whole : length ss ≡ length x.0 + length rest = ap length x.1 ∙ length-append x.0 rest in omega arith
