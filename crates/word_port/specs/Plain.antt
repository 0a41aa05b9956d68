-- Plain words: what they show when they are made, and what they keep.
use Rattle.std.specs.Prelude.{ℕ, ◌≡◌, ◌<◌, ◌≤◌, ◌+◌, ◌^◌, Bool, if◌then◌else◌, List, [], length, All, take, drop, slice_index}
use Rattle.std.specs.List.Sorted.{IsNonDecreasingBy}
use Rattle.word_port.specs.declared.Step.{Step}
use Rattle.word_port.specs.declared.Race.{Race}
use Rattle.word_port.specs.declared.Kind.{Kind}
use Rattle.word_port.specs.declared.Kind.TheVariants.{Load, Swap, Add, Cas}
use Rattle.word_port.specs.Port.{PortState}
use Rattle.word_port.specs.History.{Operation, IsLegal, words_in_the_end, accesses_in, race_writes, with_races}
use Rattle.word_port.specs.Names.{name_of}

-- with these words, of which so many are host bytes, these races, and an empty log for so many steps
abbrev pub opened : List ℕ → ℕ → List Race → ℕ → PortState
opened initial host races limit = record { log = []; limit = limit; words = length initial; host = host; name = name_of initial races }

-- each word below host is a byte
abbrev pub HasBytes : ℕ → List ℕ → Type 0
HasBytes host words = (k : ℕ) → k < host → slice_index words k < 256

-- what may be done to a host byte
abbrev pub IsByteKind : Kind → Type 0
IsByteKind Load = Unit {0}
IsByteKind Swap = Unit {0}
IsByteKind Add = ⊥
IsByteKind Cas = ⊥

-- the step is on a word, and on a host byte it is a load or a swap, of a byte for a byte
pub record IsByteStep (words host : ℕ) (s : Step) : Type 0 where
  pub word : s.index < words
  pub kind : s.index < host → IsByteKind s.kind
  pub first : s.index < host → s.first < 256
  pub answer : s.index < host → s.answer < 256

-- the races are in order of their accesses
abbrev pub AreInOrder : List Race → Type 0
AreInOrder races = IsNonDecreasingBy (λ r. r.at) races

-- after so many accesses, the races before this place are made, and those from it on are to come
pub record HasMade (races : List Race) (accesses made : ℕ) : Type 0 where
  pub before : All (λ r. r.at ≤ accesses) (take made races)
  pub after : All (λ r. accesses < r.at) (drop made races)

-- the writes just before a step, if it is an access, where so many came before
abbrev pub writes_before : Bool → List Race → ℕ → List Operation
writes_before access races accesses = if access then race_writes races (accesses + 1) else []

-- the words are those after the log with its races, which is legal from the words at the start
pub record IsKept (initial : List ℕ) (races : List Race) (host accesses made : ℕ) (words : List ℕ) (log : List Step) : Type 0 where
  pub legal : IsLegal initial (with_races host races log)
  pub ends : words_in_the_end initial (with_races host races log) ≡ words
  pub counted : accesses_in host log ≡ accesses
  pub turn : HasMade races accesses made
  pub steps : All (IsByteStep (length initial) host) log
  pub bytes : HasBytes host words
  pub count : length words ≡ length initial
  pub few : length initial ≤ 2 ^ 20
  pub hosts : host ≤ length initial
  pub order : AreInOrder races
  pub aims : All (λ r. r.index < host) races
