-- What the layers above may rest on in a script that was taken.
use Rattle.std.specs.Prelude.{ℕ, ◌≡◌, ◌≤◌, ◌<◌, ◌+◌, ◌-◌, ◌*◌, ◌%◌, ◌^◌, ◌⊎◌, Bool, true, false, if◌then◌else◌, List, [], ◌∷◌, length, take, drop, replicate, All, slice_get, filter, MatchBool, Some, None}
use Rattle.std.specs.List.{AllZip, AllByRecursion}
use Rattle.sgx_base.specs.Ranges.{host_start}
use Rattle.edl_interface.specs.declared.Plain.{Plain}
use Rattle.edl_interface.specs.declared.Class.{Class}
use Rattle.edl_interface.specs.declared.Class.TheVariants.{Plain as by_value}
use Rattle.edl_interface.specs.declared.Param.{Param}
use Rattle.edl_interface.specs.declared.Function.{Function}
use Rattle.edl_interface.specs.declared.Interface.{Interface}
use Rattle.edl_interface.specs.Parameters.{is_marshalled, marshalled, has_frame}
use Rattle.word_port.specs.declared.Race.{Race}
use Rattle.word_port.specs.Plain.{AreInOrder}
use Rattle.body_vm.specs.declared.Body.{Body}
use Rattle.body_vm.specs.declared.Action.{Action}
use Rattle.body_vm.specs.declared.Action.TheVariants as action
use Rattle.body_vm.specs.declared.Operand.{Operand}
use Rattle.body_vm.specs.declared.Operand.TheVariants.{Number, Reg, Value}
use Rattle.body_vm.specs.declared.Pass.{Pass}
use Rattle.body_vm.specs.declared.Pass.TheVariants.{Value as by_number, Bytes as by_block}
use Rattle.call_script.specs.declared.Place.{Place}
use Rattle.call_script.specs.declared.Place.TheVariants.{At as at_address, InFrame}
use Rattle.call_script.specs.declared.CallArg.{CallArg}
use Rattle.call_script.specs.declared.CallArg.TheVariants.{At, Null, Number as its_number, Bytes}
use Rattle.call_script.specs.declared.HostAct.{HostAct, Call, Raw, Poke, Peek, Return, Reply, Repeat', Row_of-HostAct, end_of-HostAct, more_of-HostAct}
use Rattle.call_script.specs.declared.Settings.{Settings}
use Rattle.call_script.specs.declared.Script.{Script}
use Rattle.call_script.specs.Settings.{Setting, host, stack, arena, cells, retries, tworkers, uworkers, slots}
use Rattle.call_script.specs.BodyNames.{is_value_class}
use Rattle.call_script.specs.Faults.{max_threads, max_racers, max_actions, max_temporaries, max_nesting, max_acts, max_race_bytes, max_repetitions}

abbrev pub IsByte : ℕ → Type 0
IsByte b = b < 256

-- ---- settings

-- a number that the setting may be
pub record IsSetTo (s : Setting) (n : ℕ) : Type 0 where
  pub from : s.least ≤ n
  pub upto : n ≤ s.most
  pub whole : n % s.unit ≡ 0

pub record AreSoundSettings (racing : Bool) (s : Settings) : Type 0 where
  pub host : IsSetTo host s.host
  pub stack : IsSetTo stack s.stack
  pub arena : IsSetTo arena s.arena
  pub cells : IsSetTo cells s.cells
  pub retries : IsSetTo retries s.retries
  pub tworkers : IsSetTo tworkers s.tworkers
  pub uworkers : IsSetTo uworkers s.uworkers
  pub slots : IsSetTo slots s.slots
  pub no_trusted_workers : racing ≡ false → s.tworkers ≡ 0
  pub no_untrusted_workers : racing ≡ false → s.uworkers ≡ 0

-- ---- initial words

-- host bytes, cells, the slots of both pools, the stop word
abbrev pub word_count : Bool → Settings → ℕ
word_count racing s = s.host + s.cells + (if racing then 2 * s.slots else 0) + 1

pub record AreSoundWords (racing : Bool) (s : Settings) (words : List ℕ) : Type 0 where
  pub count : length words ≡ word_count racing s
  pub bytes : All IsByte (take s.host words)
  pub numbers : All (λ w. w < 2 ^ 64) words
  -- no slot is taken, and no worker is to stop
  pub free : drop (s.host + s.cells) words ≡ replicate ((if racing then 2 * s.slots else 0) + 1) 0

-- ---- races

pub record IsSoundRace (size : ℕ) (r : Race) : Type 0 where
  pub from : 1 ≤ r.at
  pub upto : r.at < 2 ^ 32
  pub aim : r.index < size
  pub byte : IsByte r.value

pub record AreSoundRaces (racing : Bool) (size : ℕ) (races : List Race) : Type 0 where
  pub order : AreInOrder races
  pub each : All (IsSoundRace size) races
  pub few : length races ≤ max_race_bytes
  pub alone : racing ≡ true → races ≡ []

-- ---- bodies

-- of so many registers
abbrev pub IsRegister : ℕ → Type 0
IsRegister r = r < 8

module _ (i : Interface) (count : ℕ) (f : Function) (temporaries : ℕ) where
  -- the places of blocks: the marshalled parameters, then the temporaries
  abbrev pub IsBlock : ℕ → Type 0
  IsBlock b = b < length (marshalled f) + temporaries

  abbrev pub IsTemporary : ℕ → Type 0
  IsTemporary b = (length (marshalled f) ≤ b) × IsBlock b

  abbrev pub IsOperand : Operand → Type 0
  IsOperand (Number n) = n < 2 ^ 64
  IsOperand (Reg r) = IsRegister r
  IsOperand (Value place) = (p : Param) × (slice_get f.params place ≡ Some p) × (is_value_class p.class ≡ true)

  abbrev pub IsPassAt : Param → Pass → Type 0
  IsPassAt p (by_number v) = (is_marshalled p.class ≡ false) × IsOperand v
  IsPassAt p (by_block None) = is_marshalled p.class ≡ true
  IsPassAt p (by_block (Some b)) = (is_marshalled p.class ≡ true) × IsBlock b

  -- an OCALL of the interface, with one argument for each parameter
  pub record IsSoundOcall (ordinal : ℕ) (args : List Pass) : Type 0 where
    pub function : Function
    pub found : slice_get i.ocalls ordinal ≡ Some function
    pub fits : AllZip IsPassAt function.params args

  -- an action that so many follow
  abbrev pub IsSoundAction : ℕ → Action → Type 0
  IsSoundAction left (action.Set r v) = IsRegister r × IsOperand v
  IsSoundAction left (action.Add r v) = IsRegister r × IsOperand v
  IsSoundAction left (action.Sub r v) = IsRegister r × IsOperand v
  IsSoundAction left (action.Mul r v) = IsRegister r × IsOperand v
  IsSoundAction left (action.And r v) = IsRegister r × IsOperand v
  IsSoundAction left (action.Or r v) = IsRegister r × IsOperand v
  IsSoundAction left (action.Xor r v) = IsRegister r × IsOperand v
  IsSoundAction left (action.Len r b) = IsRegister r × IsBlock b
  IsSoundAction left (action.Sum r b) = IsRegister r × IsBlock b
  IsSoundAction left (action.Get r b v) = IsRegister r × IsBlock b × IsOperand v
  IsSoundAction left (action.Put b v w) = IsBlock b × IsOperand v × IsOperand w
  IsSoundAction left (action.Fill b v) = IsBlock b × IsOperand v
  IsSoundAction left (action.Copy b c) = IsBlock b × IsBlock c
  IsSoundAction left (action.Temp b n) = IsTemporary b × (1 ≤ n) × (n ≤ 65536)
  IsSoundAction left (action.Cload r cell) = IsRegister r × (cell < count)
  IsSoundAction left (action.Cswap r cell v) = IsRegister r × (cell < count) × IsOperand v
  IsSoundAction left (action.Cadd r cell v) = IsRegister r × (cell < count) × IsOperand v
  IsSoundAction left (action.Ccas r cell v w) = IsRegister r × (cell < count) × IsOperand v × IsOperand w
  IsSoundAction left (action.Ocall r q ordinal args) = IsRegister r × IsRegister q × IsSoundOcall ordinal args
  IsSoundAction left (action.Skipz r n) = IsRegister r × (n ≤ left)
  IsSoundAction left (action.Skipnz r n) = IsRegister r × (n ≤ left)
  IsSoundAction left (action.Return v) = IsOperand v

  abbrev pub AreSoundActions : List Action → Type 0
  AreSoundActions [] = Unit {0}
  AreSoundActions (a ∷ actions) = IsSoundAction (length actions) a × AreSoundActions actions

abbrev pub is_temporary_action : Action → Bool
is_temporary_action (action.Temp b n) = true
is_temporary_action _ = false

abbrev pub temporary_count : Body → ℕ
temporary_count body = length (filter is_temporary_action body.actions)

pub record IsSoundBody (i : Interface) (count : ℕ) (f : Function) (body : Body) : Type 0 where
  pub few : length body.actions ≤ max_actions
  pub few_temporaries : temporary_count body ≤ max_temporaries
  pub actions : AreSoundActions i count f (temporary_count body) body.actions

-- ---- acts

-- who acts: a host thread, the handler of an OCALL, a racer
pub data Actor : Type 0 where
  OfThread : Actor
  OfHandler : Function → Actor
  OfRacer : Actor

abbrev pub HasFrame : Actor → Type 0
HasFrame (OfHandler f) = has_frame f ≡ true
HasFrame _ = ⊥

abbrev pub HasReturn : Actor → Type 0
HasReturn (OfHandler f) = (r : Plain) × (f.ret ≡ Some r)
HasReturn _ = ⊥

abbrev pub HasReply : Actor → Type 0
HasReply (OfHandler f) = Unit {0}
HasReply _ = ⊥

abbrev pub MayCall : Actor → Type 0
MayCall OfThread = Unit {0}
MayCall (OfHandler f) = f.switchless ≡ false
MayCall OfRacer = ⊥

abbrev pub MayPeek : Actor → Type 0
MayPeek OfRacer = ⊥
MayPeek _ = Unit {0}

-- the 64 bits of a signed integer: it is below half of what its size holds, or negative and not below the other half
abbrev pub IsSignedOf : ℕ → ℕ → Type 0
IsSignedOf size n = (2 * n < 2 ^ (8 * size)) ⊎ (2 ^ 65 ≤ 2 * n + 2 ^ (8 * size))

abbrev pub IsIntegerOf : Plain → ℕ → Type 0
IsIntegerOf plain n = MatchBool plain.signed (IsSignedOf plain.size n) (n < 2 ^ (8 * plain.size))

pub record IsSoundInteger (plain : Plain) (n : ℕ) : Type 0 where
  pub integer : plain.integer ≡ true
  pub fits : IsIntegerOf plain n
  pub word : n < 2 ^ 64

pub record IsSoundValue (plain : Plain) (bytes : List ℕ) : Type 0 where
  pub opaque : plain.integer ≡ false
  pub size : length bytes ≡ plain.size
  pub each : All IsByte bytes

-- an address, or an offset in a frame that there is
abbrev pub IsPointedAt : Actor → Place → Type 0
IsPointedAt who (at_address address) = address < 2 ^ 64
IsPointedAt who (InFrame offset) = HasFrame who × (offset < 2 ^ 16)

-- so many bytes of host memory, or of a frame that there is
abbrev pub IsReached : Actor → ℕ → Place → ℕ → Type 0
IsReached who size (at_address address) count = (host_start ≤ address) × (address + count ≤ host_start + size)
IsReached who size (InFrame offset) count = HasFrame who × (offset < 2 ^ 16)

abbrev pub IsSoundPlain : Plain → CallArg → Type 0
IsSoundPlain plain (its_number n) = IsSoundInteger plain n
IsSoundPlain plain (Bytes bytes) = IsSoundValue plain bytes
IsSoundPlain plain _ = ⊥

abbrev pub IsSoundPointer : Actor → CallArg → Type 0
IsSoundPointer who (At place) = IsPointedAt who place
IsSoundPointer who Null = Unit {0}
IsSoundPointer who _ = ⊥

abbrev pub IsSoundArgument : Actor → Class → CallArg → Type 0
IsSoundArgument who (by_value plain) arg = IsSoundPlain plain arg
IsSoundArgument who _ arg = IsSoundPointer who arg

module _ (i : Interface) (size : ℕ) (who : Actor) where
  -- an ECALL of the interface, with one argument for each parameter
  pub record IsSoundCall (ordinal : ℕ) (args : List CallArg) : Type 0 where
    pub function : Function
    pub found : slice_get i.ecalls ordinal ≡ Some function
    pub fits : AllZip (λ p arg. IsSoundArgument who p.class arg) function.params args
    pub allowed : MayCall who

  pub record IsSoundRaw (ordinal address : ℕ) : Type 0 where
    pub ordinal_fits : ordinal < 2 ^ 32
    pub address_fits : address < 2 ^ 64
    pub allowed : MayCall who

  pub record IsSoundPoke (place : Place) (bytes : List ℕ) : Type 0 where
    pub some : 1 ≤ length bytes
    pub each : All IsByte bytes
    pub reached : IsReached who size place (length bytes)

  pub record IsSoundPeek (place : Place) (count : ℕ) : Type 0 where
    pub from : 1 ≤ count
    pub upto : count ≤ 4096
    pub reached : IsReached who size place count
    pub allowed : MayPeek who

  -- a repeat that is carried out so often by those around it, in which fewer repeats may be nested than so many
  pub record IsSoundRepeat (nesting around times : ℕ) : Type 0 where
    pub nested : 1 ≤ nesting
    pub from : 1 ≤ times
    pub upto : times ≤ 10000
    pub in_all : around * times ≤ max_repetitions

  -- an act that is carried out so often, in which so many repeats may be nested
  abbrev mutual
    pub IsSoundAct : HostAct → ℕ → ℕ → Type 0
    IsSoundAct (Call ordinal args) nesting around = IsSoundCall ordinal args
    IsSoundAct (Raw ordinal address) nesting around = IsSoundRaw ordinal address
    IsSoundAct (Poke place bytes) nesting around = IsSoundPoke place bytes
    IsSoundAct (Peek place count) nesting around = IsSoundPeek place count
    IsSoundAct (Return n) nesting around = HasReturn who × (n < 2 ^ 64)
    IsSoundAct (Reply n) nesting around = HasReply who × (n < 2 ^ 16)
    IsSoundAct (Repeat' times shape acts) nesting around =
        IsSoundRepeat nesting around times × AreSoundInRow acts (nesting - 1) (around * times)

    pub AreSoundInRow : {n : _} → Row_of-HostAct n → ℕ → ℕ → Type 0
    AreSoundInRow end_of-HostAct nesting around = Unit {0}
    AreSoundInRow (more_of-HostAct act rest) nesting around =
        IsSoundAct act nesting around × AreSoundInRow rest nesting around

  -- acts that are carried out so often, in each of which so many repeats may be nested
  abbrev pub AreSoundActsIn : List HostAct → ℕ → ℕ → Type 0
  AreSoundActsIn acts nesting around = AllByRecursion (λ act. IsSoundAct act nesting around) acts

  -- the acts of a whole list
  abbrev pub AreSoundActs : List HostAct → Type 0
  AreSoundActs acts = AreSoundActsIn acts max_nesting 1

-- ---- the script

-- the lists of acts of host threads, of which thread 0 is the first, and of racers
pub record AreSoundThreads (i : Interface) (racing : Bool) (size : ℕ) (threads racers : List (List HostAct))
    : Type 0 where
  pub first : 1 ≤ length threads
  pub few : length threads ≤ max_threads
  pub alone : racing ≡ false → length threads ≡ 1
  pub each : All (AreSoundActs i size OfThread) threads
  pub few_acts : All (λ acts. length acts ≤ max_acts) threads
  pub few_racers : length racers ≤ max_racers
  pub no_racers : racing ≡ false → racers ≡ []
  pub each_racer : All (AreSoundActs i size OfRacer) racers

-- a script that was taken for an interface, by a program with threads or by one without
pub record IsSoundScript (i : Interface) (racing : Bool) (s : Script) : Type 0 where
  pub settings : AreSoundSettings racing s.settings
  pub stacks : (length s.threads + s.settings.tworkers) * s.settings.stack ≤ s.settings.host
  pub stack_in_host : s.settings.stack ≤ s.settings.host
  pub words : AreSoundWords racing s.settings s.words
  pub races : AreSoundRaces racing s.settings.host s.races
  pub bodies : AllZip (IsSoundBody i s.settings.cells) i.ecalls s.bodies
  pub handlers : AllZip (λ f acts. AreSoundActs i s.settings.host (OfHandler f) acts) i.ocalls s.handlers
  pub threads : AreSoundThreads i racing s.settings.host s.threads s.racers
