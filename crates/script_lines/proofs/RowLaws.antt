-- What one row of a table reads behind its first word.
use Rattle.std.proofs.Common.{◌≡◌, List, [], ◌∷◌, ◌++◌, Option, Some, None, refl, ap, sym, ◌∙◌}
use Rattle.std.specs.Prelude.{option_map, is_some, if◌then◌else◌}
use Rattle.call_script.specs.Spelling.{Word}
use Rattle.call_script.specs.Parser.{Parser, ◌>>=◌, ◌<*>◌, ◌<*◌, and_then, pure, said, ended, or_else, first_to_read}
use Rattle.call_script.specs.BodyNames.{BodyNames}
use Rattle.call_script.specs.Line.{Do, Phrase, Role, applied, word_phrase, in_role, ◌·◌, doing}
use Rattle.body_vm.specs.declared.Action.{Action}
use Rattle.script_lines.specs.declared.shapes.Shape.{Shape}
use Rattle.script_lines.specs.Shapes.{reads, before, one, two, three, four, opens, opened}

pub or-none : {A : Type 0} (o : Option A) → or_else o None ≡ o
or-none None = refl
or-none (Some a) = refl

twice : {A B C : Type 0} (g : B → C) (f : A → B) (o : Option A)
    → option_map g (option_map f o) ≡ option_map (λ a. g (f a)) o
twice g f None = refl
twice g f (Some a) = refl

pub ended-with : {A B : Type 0} (f : A → B) (o : Option (A × List Word))
    → ended (and_then o (λ a. pure (f a))) ≡ option_map f (ended o)
ended-with f None = refl
ended-with f (Some (a, [])) = refl
ended-with f (Some (a, w ∷ ws)) = refl

pub one-is : {A : Type 0} (f : Word → A) (s : Shape) (ws : List Word)
    → ended ((pure f <*> reads s) ws) ≡ option_map f (one s ws)
unfolding one
one-is f s ws = ended-with f (reads s ws)

pub two-is : {A : Type 0} (f : Word → Word → A) (s t : Shape) (ws : List Word)
    → ended ((pure f <*> reads s <*> reads t) ws) ≡ option_map (λ p. f p.0 p.1) (two s t ws)
unfolding two
two-is f s t ws = go (reads s ws)
  where
    go : (o : Option (Word × List Word))
        → ended (and_then (and_then o (λ a. pure (f a))) (λ g. reads t >>= λ b. pure (g b)))
        ≡ option_map (λ p. f p.0 p.1) (before o (one t))
    go None = refl
    go (Some (a, xs)) = one-is (f a) t xs ∙ sym (twice (λ p. f p.0 p.1) (λ b. (a, b)) (one t xs))

pub three-is : {A : Type 0} (f : Word → Word → Word → A) (s t u : Shape) (ws : List Word)
    → ended ((pure f <*> reads s <*> reads t <*> reads u) ws) ≡ option_map (λ p. f p.0 p.1.0 p.1.1) (three s t u ws)
unfolding three
three-is f s t u ws = go (reads s ws)
  where
    go : (o : Option (Word × List Word))
        → ended (and_then (and_then (and_then o (λ a. pure (f a))) (λ g. reads t >>= λ b. pure (g b)))
        (λ g. reads u >>= λ b. pure (g b)))
        ≡ option_map (λ p. f p.0 p.1.0 p.1.1) (before o (two t u))
    go None = refl
    go (Some (a, xs)) = two-is (f a) t u xs ∙ sym (twice (λ p. f p.0 p.1.0 p.1.1) (λ b. (a, b)) (two t u xs))

pub four-is : {A : Type 0} (f : Word → Word → Word → Word → A) (s t u v : Shape) (ws : List Word)
    → ended ((pure f <*> reads s <*> reads t <*> reads u <*> reads v) ws)
    ≡ option_map (λ p. f p.0 p.1.0 p.1.1.0 p.1.1.1) (four s t u v ws)
unfolding four
four-is f s t u v ws = go (reads s ws)
  where
    go : (o : Option (Word × List Word))
        → ended (and_then (and_then (and_then (and_then o (λ a. pure (f a))) (λ g. reads t >>= λ b. pure (g b)))
        (λ g. reads u >>= λ b. pure (g b))) (λ g. reads v >>= λ b. pure (g b)))
        ≡ option_map (λ p. f p.0 p.1.0 p.1.1.0 p.1.1.1) (before o (three t u v))
    go None = refl
    go (Some (a, xs)) = three-is (f a) t u v xs
        ∙ sym (twice (λ p. f p.0 p.1.0 p.1.1.0 p.1.1.1) (λ b. (a, b)) (three t u v xs))

pub opened-is : {A : Type 0} (f : Word → A) (s : Shape) (ws : List Word)
    → ended ((pure f <*> reads s <* said "{") ws) ≡ option_map f (opened s ws)
unfolding opened
opened-is f s ws = go (reads s ws)
  where
    behind : (a : Word) (o : Option (Word × List Word))
        → ended (and_then o (λ b. pure (f a))) ≡ option_map f (ended (and_then o (λ b. pure a)))
    behind a None = refl
    behind a (Some (b, [])) = refl
    behind a (Some (b, y ∷ ys)) = refl

    go : (o : Option (Word × List Word))
        → ended (and_then (and_then o (λ a. pure (f a))) (λ a. said "{" >>= λ b. pure a))
        ≡ option_map f (ended (and_then o (λ a. said "{" >>= λ b. pure a)))
    go None = refl
    go (Some (a, xs)) = behind a (said "{" xs)

pub opens-is : {A : Type 0} (a : A) (ws : List Word)
    → ended ((pure a <* said "{") ws) ≡ (if opens ws then Some a else None)
unfolding opens
opens-is a ws = go (said "{" ws)
  where
    go : (o : Option (Word × List Word))
        → ended (and_then o (λ b. pure a)) ≡ (if is_some (ended o) then Some a else None)
    go None = refl
    go (Some (b, [])) = refl
    go (Some (b, y ∷ ys)) = refl

-- ---- actions

-- the phrase that goes on with one word more, or with two and so on
phrase-one : {A C : Type 0} (f : Phrase (A → C)) (r : Role) (m : BodyNames → Word → A) (s : Shape) (ws : List Word)
    → ended ((pure f · in_role r m (reads s)) ws) ≡ option_map (λ w. applied f (word_phrase r m w)) (one s ws)
unfolding one
phrase-one f r m s ws = go (reads s ws)
  where
    go : (o : Option (Word × List Word))
        → ended (and_then (and_then o (λ w. pure (word_phrase r m w))) (λ a. pure (applied f a)))
        ≡ option_map (λ w. applied f (word_phrase r m w)) (ended o)
    go None = refl
    go (Some (w, [])) = refl
    go (Some (w, x ∷ xs)) = refl

module _ {A B C : Type 0} (f : Phrase (A → B → C)) (r : Role) (m : BodyNames → Word → A) (s : Shape) (q : Role)
    (n : BodyNames → Word → B) (t : Shape) where
  phrase-two : (ws : List Word) → ended ((pure f · in_role r m (reads s) · in_role q n (reads t)) ws)
      ≡ option_map (λ p. applied (applied f (word_phrase r m p.0)) (word_phrase q n p.1)) (two s t ws)
  unfolding two
  phrase-two ws = go (reads s ws)
    where
      go : (o : Option (Word × List Word))
          → ended (and_then (and_then (and_then o (λ w. pure (word_phrase r m w))) (λ a. pure (applied f a)))
          (λ g. in_role q n (reads t) >>= λ a. pure (applied g a)))
          ≡ option_map (λ p. applied (applied f (word_phrase r m p.0)) (word_phrase q n p.1)) (before o (one t))
      go None = refl
      go (Some (w, xs)) =
          phrase-one (applied f (word_phrase r m w)) q n t xs
          ∙ sym (twice (λ p. applied (applied f (word_phrase r m p.0)) (word_phrase q n p.1)) (λ b. (w, b)) (one t xs))

module _ {A B D C : Type 0} (f : Phrase (A → B → D → C)) (r : Role) (m : BodyNames → Word → A) (s : Shape) (q : Role)
    (n : BodyNames → Word → B) (t : Shape) (k : Role) (l : BodyNames → Word → D) (u : Shape) where
  abbrev three_words : Word × (Word × Word) → Phrase C
  three_words p = applied (applied (applied f (word_phrase r m p.0)) (word_phrase q n p.1.0)) (word_phrase k l p.1.1)

  phrase-three : (ws : List Word)
      → ended ((pure f · in_role r m (reads s) · in_role q n (reads t) · in_role k l (reads u)) ws)
      ≡ option_map three_words (three s t u ws)
  unfolding three
  phrase-three ws = go (reads s ws)
    where
      go : (o : Option (Word × List Word))
          → ended (and_then (and_then (and_then (and_then o (λ w. pure (word_phrase r m w))) (λ a. pure (applied f a)))
          (λ g. in_role q n (reads t) >>= λ a. pure (applied g a)))
          (λ g. in_role k l (reads u) >>= λ a. pure (applied g a)))
          ≡ option_map three_words (before o (two t u))
      go None = refl
      go (Some (w, xs)) =
          phrase-two (applied f (word_phrase r m w)) q n t k l u xs
          ∙ sym (twice three_words (λ b. (w, b)) (two t u xs))

module _ {A B D E C : Type 0} (f : Phrase (A → B → D → E → C)) (r : Role) (m : BodyNames → Word → A)
    (s : Shape) (q : Role) (n : BodyNames → Word → B) (t : Shape) (k : Role) (l : BodyNames → Word → D) (u : Shape)
    (i : Role) (h : BodyNames → Word → E) (v : Shape) where
  abbrev four_words : Word × (Word × (Word × Word)) → Phrase C
  four_words p =
      applied (applied (applied (applied f (word_phrase r m p.0)) (word_phrase q n p.1.0)) (word_phrase k l p.1.1.0))
      (word_phrase i h p.1.1.1)

  phrase-four : (ws : List Word)
      → ended ((pure f · in_role r m (reads s) · in_role q n (reads t) · in_role k l (reads u) · in_role i h (reads v))
      ws)
      ≡ option_map four_words (four s t u v ws)
  unfolding four
  phrase-four ws = go (reads s ws)
    where
      go : (o : Option (Word × List Word))
          → ended (and_then (and_then (and_then (and_then (and_then o (λ w. pure (word_phrase r m w)))
          (λ a. pure (applied f a)))
          (λ g. in_role q n (reads t) >>= λ a. pure (applied g a)))
          (λ g. in_role k l (reads u) >>= λ a. pure (applied g a)))
          (λ g. in_role i h (reads v) >>= λ a. pure (applied g a)))
          ≡ option_map four_words (before o (three t u v))
      go None = refl
      go (Some (w, xs)) =
          phrase-three (applied f (word_phrase r m w)) q n t k l u i h v xs
          ∙ sym (twice four_words (λ b. (w, b)) (three t u v xs))

pub do-two : {A B : Type 0} (f : Phrase (A → B → Action)) (r : Role) (m : BodyNames → Word → A) (s : Shape) (q : Role)
    (n : BodyNames → Word → B) (t : Shape) (ws : List Word)
    → ended (doing (pure f · in_role r m (reads s) · in_role q n (reads t)) ws)
    ≡ option_map (λ p. Do (applied (applied f (word_phrase r m p.0)) (word_phrase q n p.1))) (two s t ws)
do-two f r m s q n t ws =
    ended-with Do ((pure f · in_role r m (reads s) · in_role q n (reads t)) ws)
    ∙ ap (option_map Do) (phrase-two f r m s q n t ws)
    ∙ twice Do (λ p. applied (applied f (word_phrase r m p.0)) (word_phrase q n p.1)) (two s t ws)

pub do-three : {A B D : Type 0} (f : Phrase (A → B → D → Action)) (r : Role) (m : BodyNames → Word → A)
    (s : Shape) (q : Role) (n : BodyNames → Word → B) (t : Shape) (k : Role) (l : BodyNames → Word → D) (u : Shape)
    (ws : List Word)
    → ended (doing (pure f · in_role r m (reads s) · in_role q n (reads t) · in_role k l (reads u)) ws)
    ≡ option_map (λ p. Do (three_words f r m s q n t k l u p)) (three s t u ws)
do-three f r m s q n t k l u ws =
    ended-with Do ((pure f · in_role r m (reads s) · in_role q n (reads t) · in_role k l (reads u)) ws)
    ∙ ap (option_map Do) (phrase-three f r m s q n t k l u ws)
    ∙ twice Do (three_words f r m s q n t k l u) (three s t u ws)

pub do-four : {A B D E : Type 0} (f : Phrase (A → B → D → E → Action)) (r : Role) (m : BodyNames → Word → A) (s : Shape)
    (q : Role) (n : BodyNames → Word → B) (t : Shape) (k : Role) (l : BodyNames → Word → D) (u : Shape)
    (i : Role) (h : BodyNames → Word → E) (v : Shape) (ws : List Word)
    → ended
    (doing (pure f · in_role r m (reads s) · in_role q n (reads t) · in_role k l (reads u) · in_role i h (reads v)) ws)
    ≡ option_map (λ p. Do (four_words f r m s q n t k l u i h v p)) (four s t u v ws)
do-four f r m s q n t k l u i h v ws =
    ended-with Do
    ((pure f · in_role r m (reads s) · in_role q n (reads t) · in_role k l (reads u) · in_role i h (reads v))
    ws)
    ∙ ap (option_map Do) (phrase-four f r m s q n t k l u i h v ws)
    ∙ twice Do (four_words f r m s q n t k l u i h v) (four s t u v ws)

-- ---- tables

-- what two tables read, one after the other
pub read-either : {A : Type 0} (ps qs : List (Parser A)) (ws : List Word)
    → first_to_read (ps ++ qs) ws ≡ or_else (first_to_read ps ws) (first_to_read qs ws)
read-either [] qs ws = refl
read-either (p ∷ ps) qs ws = ap (or_else (ended (p ws))) (read-either ps qs ws) ∙ go (ended (p ws))
  where
    go : (o : Option _) → or_else o (or_else (first_to_read ps ws) (first_to_read qs ws))
        ≡ or_else (or_else o (first_to_read ps ws)) (first_to_read qs ws)
    go None = refl
    go (Some a) = refl
