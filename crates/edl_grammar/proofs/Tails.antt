-- The tail of an untrusted function, which is read by its first word.
use Rattle.std.proofs.Common.{append-nil, inl, inr, ◌≡◌, Bool, true, false, List, [], ◌∷◌, ◌++◌, refl, sym, ◌∙◌, ap, subst, Option, Some, None}
use Prim.Native.String.{String}
use Rattle.edl_grammar.specs.declared.NameAt.{NameAt}
use Rattle.edl_grammar.specs.Symbols.{Lexed}
use Rattle.edl_grammar.specs.Production.{Production, Then}
use Rattle.edl_grammar.specs.Production as spell
use Rattle.edl_grammar.specs.Grammar.{list_of}
use Rattle.edl_grammar.specs.declared.Tail.{Tail}
use Rattle.edl_grammar.specs.Grammar as grammar
use Rattle.edl_grammar.specs.Parser.{sees, is_word, is_mark, is_name, is_switchless, no_tail}
use Rattle.edl_grammar.specs.Parser as parse
use Rattle.edl_grammar.proofs.Agrees.{Agrees, anywhere, Ends, before, agrees_by, agrees_where, pure_agrees, bind_agrees, optional_agrees, given_agrees, either_agrees}
use Rattle.edl_grammar.proofs.Tokens.{word_agrees, mark_agrees, mark_is}
use Rattle.edl_grammar.proofs.Heads.{then_begins, then_skips, word_begins, word_skips, name_begins, leads_keeps, keeps_pure, then_leads, mark_leads, is_name_true}
use Rattle.edl_grammar.proofs.Productions.{at_mark, no_comma, names_agree}

-- a mark is no word
pub no_word_at : (m w : String) (rest : List Lexed) → at_mark m rest ≡ true → sees (is_word w) rest ≡ false
no_word_at m w [] e = refl
no_word_at m w (x ∷ xs) e = rw (mark_is m x.symbol e) refl

allow_agrees : Agrees grammar.allow parse.allow anywhere
unfolding parse.allow
allow_agrees =
    bind_agrees (word_agrees "allow") (λ _.
    bind_agrees (mark_agrees "(") (λ _.
    bind_agrees (optional_agrees is_name names_agree (then_begins is_name (name_begins is_name is_name_true))) (λ names.
    bind_agrees (mark_agrees ")") (λ _. pure_agrees (list_of names)) (λ a back rest b d e. refl))
    (λ names. leads_keeps last anywhere (then_leads last (mark_leads ")" last (λ n rest. refl)))))
    (λ a back rest b d e. refl))
    (λ a back rest b d e. refl)
  where
    last : Ends
    last = before is_name no_comma

-- by its first word
switchless_tail : Production Tail
switchless_tail = Then (Then grammar.switchless (λ _. spell.optional grammar.allow)) (λ names. spell.pure (record { allow = names; switchless = true }))

allow_tail : Production Tail
allow_tail = Then grammar.allow (λ names. Then (spell.given grammar.switchless) (λ marked. spell.pure (record { allow = Some names; switchless = marked })))

semi : Ends
semi = at_mark ";"

at_semi : {A : Type 0} (a : A) → Agrees (spell.pure a) (parse.pure a) (at_mark ";")
at_semi a = agrees_where (at_mark ";") (λ rest e. refl) (pure_agrees a)

no_allow : (rest : List Lexed) → at_mark ";" rest ≡ true → before (is_word "allow") anywhere rest ≡ true
no_allow rest e = rw (no_word_at ";" "allow" rest e) refl

no_switchless : (rest : List Lexed) → at_mark ";" rest ≡ true → before is_switchless anywhere rest ≡ true
no_switchless rest e = rw (no_word_at ";" "transition_using_threads" rest e) refl

by_word : Agrees (spell.◌<|>◌ switchless_tail (spell.◌<|>◌ allow_tail (spell.pure no_tail))) parse.tail (at_mark ";")
unfolding switchless_tail allow_tail parse.tail
by_word =
    either_agrees is_switchless
    (bind_agrees (bind_agrees (word_agrees "transition_using_threads") (λ _. optional_agrees (is_word "allow") allow_agrees (then_begins (is_word "allow") (word_begins "allow" (is_word "allow") refl))) (λ a back rest b d e. refl))
    (λ names. at_semi (record { allow = names; switchless = true })) (λ names. keeps_pure (record { allow = names; switchless = true }) (before (is_word "allow") anywhere) (at_mark ";") no_allow))
    (either_agrees (is_word "allow")
    (bind_agrees allow_agrees (λ names.
    bind_agrees (given_agrees is_switchless (word_agrees "transition_using_threads") (word_begins "transition_using_threads" is_switchless refl))
    (λ marked. at_semi (record { allow = Some names; switchless = marked })) (λ marked. keeps_pure (record { allow = Some names; switchless = marked }) (before is_switchless anywhere) (at_mark ";") no_switchless))
    (λ a back rest b d e. refl))
    (at_semi no_tail)
    (then_begins (is_word "allow") (then_begins (is_word "allow") (word_begins "allow" (is_word "allow") refl)))
    (λ front rest t d e. rw d.0 (no_word_at ";" "allow" rest e)))
    (then_begins is_switchless (then_begins is_switchless (word_begins "transition_using_threads" is_switchless refl)))
    avoids
  where
    avoids : (front rest : List Lexed) (t : Tail) → (spell.◌<|>◌ allow_tail (spell.pure no_tail)) front t → at_mark ";" rest ≡ true → sees is_switchless (front ++ rest) ≡ false
    avoids front rest t (inl d) e = then_skips is_switchless (then_skips is_switchless (word_skips "allow" is_switchless refl)) front rest t d
    avoids front rest t (inr d) e = rw d.0 (no_word_at ";" "transition_using_threads" rest e)

to_grammar : (ss : List Lexed) (t : Tail) → (spell.◌<|>◌ switchless_tail (spell.◌<|>◌ allow_tail (spell.pure no_tail))) ss t → grammar.tail ss t
unfolding switchless_tail allow_tail
to_grammar ss t (inr (inr d)) = inl (record { front = []; back = ss; value = None; split = refl; first = refl; rest = record { front = []; back = ss; value = false; split = refl; first = refl; rest = d } })
to_grammar ss t (inr (inl d)) = inl (record { front = d.front; back = d.back; value = Some d.value; split = d.split; first = d.first; rest = d.rest })
to_grammar ss t (inl d) = go d.value d.first d.rest
  where
    go : (o : Option (List NameAt)) → Then grammar.switchless (λ _. spell.optional grammar.allow) d.front o → spell.pure (record { allow = o; switchless = true }) d.back t → grammar.tail ss t
    go None f r =
        let same : ss ≡ f.front = d.split ∙ ap (λ z. d.front ++ z) r.0 ∙ append-nil d.front ∙ f.split ∙ ap (λ z. f.front ++ z) f.rest ∙ append-nil f.front in
        inl (record {
          front = [];
          back = ss;
          value = None;
          split = refl;
          first = refl;
          rest = record { front = ss; back = []; value = true; split = sym (append-nil ss); first = (f.value, subst (λ z. grammar.switchless z f.value) (sym same) f.first); rest = (refl, r.1) };
        })
    go (Some names) f r =
        let same : ss ≡ d.front = d.split ∙ ap (λ z. d.front ++ z) r.0 ∙ append-nil d.front in
        inr (record {
          front = f.front;
          back = f.back;
          value = f.value;
          split = same ∙ f.split;
          first = f.first;
          rest = record { front = f.back; back = []; value = names; split = sym (append-nil f.back); first = f.rest; rest = (refl, r.1) };
        })

from_grammar : (ss : List Lexed) (t : Tail) → grammar.tail ss t → (spell.◌<|>◌ switchless_tail (spell.◌<|>◌ allow_tail (spell.pure no_tail))) ss t
unfolding switchless_tail allow_tail
from_grammar ss t (inr d) =
    let r = d.rest in
    let same : d.back ≡ r.front = r.split ∙ ap (λ z. r.front ++ z) r.rest.0 ∙ append-nil r.front in
    inl (record {
      front = ss;
      back = [];
      value = Some r.value;
      split = sym (append-nil ss);
      first = record { front = d.front; back = d.back; value = d.value; split = d.split; first = d.first; rest = subst (λ z. grammar.allow z r.value) (sym same) r.first };
      rest = (refl, r.rest.1);
    })
from_grammar ss t (inl d) = go d.value d.first d.rest
  where
    go : (o : Option (List NameAt)) → spell.optional grammar.allow d.front o → Then (spell.given grammar.switchless) (λ marked. spell.pure (record { allow = o; switchless = marked })) d.back t
        → (spell.◌<|>◌ switchless_tail (spell.◌<|>◌ allow_tail (spell.pure no_tail))) ss t
    go (Some names) f r = inr (inl (record { front = d.front; back = d.back; value = names; split = d.split; first = f; rest = r }))
    go None f r = by_mark r.value r.first r.rest
      where
        same : (back : List Lexed) → d.back ≡ back → ss ≡ back
        same back e = d.split ∙ ap (λ z. z ++ d.back) f ∙ e

        by_mark : (m : Bool) → spell.given grammar.switchless r.front m → spell.pure (record { allow = None; switchless = m }) r.back t
            → (spell.◌<|>◌ switchless_tail (spell.◌<|>◌ allow_tail (spell.pure no_tail))) ss t
        by_mark false g h = inr (inr (same [] (r.split ∙ ap (λ z. z ++ r.back) g ∙ h.0), h.1))
        by_mark true g h =
            let cut : ss ≡ r.front = same r.front (r.split ∙ ap (λ z. r.front ++ z) h.0 ∙ append-nil r.front) in
            inl (record {
              front = ss;
              back = [];
              value = None;
              split = sym (append-nil ss);
              first = record { front = ss; back = []; value = g.0; split = sym (append-nil ss); first = subst (λ z. grammar.switchless z g.0) (sym cut) g.1; rest = refl };
              rest = (refl, h.1);
            })

pub tail_agrees : Agrees grammar.tail parse.tail (at_mark ";")
tail_agrees = agrees_by to_grammar from_grammar by_word
