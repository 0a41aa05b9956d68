-- The acts of the blocks that lines open.
use Rattle.std.proofs.Common.{◌≡◌, ◌≤◌, ◌-◌, length, get_or, take, drop, ℕ, Bool, true, false, List, [], ◌∷◌, ◌++◌, Option, Some, None, refl, ap, sym, ◌∙◌, append_assoc, append-nil}
use Rattle.std.specs.Prelude.{map, filter, filter_map, ◌||◌, if◌then◌else◌}
use Rattle.std.specs.List.{cons_option}
use Rattle.edl_interface.specs.declared.Interface.{Interface}
use Rattle.call_script.specs.declared.HostAct.{HostAct}
use Rattle.call_script.specs.Line.{Line}
use Rattle.call_script.specs.Line as its
use Rattle.call_script.specs.Block.{PlacedLine, home}
use Rattle.call_script.specs.Meaning.{is_line, acts_of_blocks, acts_in}
use Rattle.script_blocks.specs.declared.thread.Kind.{Kind}
use Rattle.script_blocks.specs.declared.thread.Kind.TheVariants.{Thread, Racer}
use Rattle.script_blocks.specs.declared.lines.BlockLine.{BlockLine}
use Rattle.script_blocks.proofs.LineLaws.{parts}
use Rattle.script_blocks.specs.Blocks.{HomeLine, home_line, kept_by, kept, is_of_block, block_lines}
use Rattle.script_blocks.specs.Acts.{block_acts, opens_kind, opened_acts}
use Rattle.script_blocks.proofs.ActLaws.{acts_in-is}

-- ---- line by line

module _ (i : Interface) (all : List HomeLine) (kind : Kind) where
  abbrev opened_by : List HomeLine → List (List HostAct)
  opened_by ls = opened_acts i all kind ls

  module _ (l : HomeLine) (old : List (List HostAct)) where
    pub opened : opens_kind kind l.line ≡ true → (new : List (List HostAct)) (acts : List HostAct)
        → acts ≡ block_acts i all l.number → new ≡ old ++ acts ∷ []
        → new ≡ old ++ opened_acts i all kind (l ∷ [])
    unfolding opened_acts
    opened e new acts f g = g ∙ ap (λ a. old ++ a ∷ []) f ∙ rw e refl

    pub not_opened : opens_kind kind l.line ≡ false → old ≡ old ++ opened_acts i all kind (l ∷ [])
    unfolding opened_acts
    not_opened e = sym (append-nil old) ∙ rw e refl

  first-opened : (l : HomeLine) (ls : List HomeLine) → opened_by (l ∷ ls) ≡ opened_by (l ∷ []) ++ opened_by ls
  unfolding opened_acts
  first-opened l ls = go (opens_kind kind l.line) refl
    where
      go : (t : Bool) → opens_kind kind l.line ≡ t → opened_by (l ∷ ls) ≡ opened_by (l ∷ []) ++ opened_by ls
      go true e = rw e refl
      go false e = rw e refl

  pub turn : (l : HomeLine) (rest : List HomeLine) (old new : List (List HostAct))
      → new ≡ old ++ opened_acts i all kind (l ∷ [])
      → new ++ opened_acts i all kind rest ≡ old ++ opened_acts i all kind (l ∷ rest)
  turn l rest old new e =
      ap (λ x. x ++ opened_by rest) e ∙ append_assoc old (opened_by (l ∷ [])) (opened_by rest)
      ∙ ap (λ x. old ++ x) (sym (first-opened l rest))

  pub end : (left : List HomeLine) (acts all_acts : List (List HostAct)) → left ≡ []
      → acts ++ opened_acts i all kind left ≡ all_acts → acts ≡ all_acts
  unfolding opened_acts
  end left acts all_acts e h = sym (ap (λ ls. acts ++ opened_by ls) e ∙ append-nil acts) ∙ h

  pub acts_step : (left : List BlockLine) (x : BlockLine) → 1 ≤ length left → x ≡ get_or left 0 x
      → (old new sum : List (List HostAct)) → new ≡ old ++ opened_acts i all kind (home_line x ∷ [])
      → old ++ opened_acts i all kind (map home_line left) ≡ sum
      → new ++ opened_acts i all kind (map home_line (take (length left - 1) (drop 1 left))) ≡ sum
  acts_step left x long is old new sum e h =
      turn (home_line x) (map home_line (take (length left - 1) (drop 1 left))) old new e
      ∙ ap (λ ls. old ++ opened_acts i all kind ls) (sym (parts left x long is)) ∙ h

-- ---- all blocks of a kind

no-kind : (kind : Kind) (line : Line) → is_of_block line ≡ false → opens_kind kind line ≡ false
no-kind Thread its.Thread e = absurd cc
no-kind Thread line e = refl
no-kind Racer its.Racer e = absurd cc
no-kind Racer line e = refl

by-kind : (f g : ℕ → List HostAct) → ((n : ℕ) → f n ≡ g n) → (kind : Kind) (ls : List PlacedLine)
    → map (λ (l : PlacedLine). f l.number) (filter (is_line (opens_kind kind)) ls)
    ≡ map (λ (l : HomeLine). g l.number) (filter (λ (l : HomeLine). opens_kind kind l.line) (filter_map kept ls))
by-kind f g e kind [] = refl
by-kind f g e kind (l ∷ ls) = go l.line refl (by-kind f g e kind ls)
  where
    placed : List PlacedLine → List (List HostAct)
    placed xs = map (λ (l : PlacedLine). f l.number) (filter (is_line (opens_kind kind)) xs)

    homed : List HomeLine → List (List HostAct)
    homed xs = map (λ (l : HomeLine). g l.number) (filter (λ (l : HomeLine). opens_kind kind l.line) xs)

    go : (o : Option Line) → l.line ≡ o → placed ls ≡ homed (filter_map kept ls)
        → placed (l ∷ ls) ≡ homed (cons_option (kept_by l.number (home l) o) (filter_map kept ls))
    go None k rest = rw k rest
    go (Some line) k rest = on (is_of_block line) (opens_kind kind line) refl refl
      where
        on : (s t : Bool) → is_of_block line ≡ s → opens_kind kind line ≡ t
            → placed (l ∷ ls)
            ≡ homed (cons_option (if s then Some (record { number = l.number; home = home l; line = line })
            else None) (filter_map kept ls))
        on true true d h = rw (k, h, e l.number) (ap (λ xs. g l.number ∷ xs) rest)
        on true false d h = rw (k, h) rest
        on false t d h = let none = no-kind kind line d in rw (k, none) rest

module _ (i : Interface) (racing : Bool) (script : List PlacedLine) where
  pub opened-is : (kind : Kind) → acts_of_blocks i racing script (opens_kind kind)
      ≡ opened_acts i (block_lines script) kind (block_lines script)
  unfolding opened_acts block_lines
  opened-is kind =
      by-kind (acts_in i racing script) (block_acts i (block_lines script)) (acts_in-is i racing script) kind script
