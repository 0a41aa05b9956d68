-- A call that a worker serves, and that makes a call which another worker serves.
use Rattle.std.specs.Prelude.{true, List, [], ◌∷◌, None, codes}
use Rattle.edl_interface.specs.declared.Function.{Function}
use Rattle.edl_interface.specs.declared.Interface.{Interface}
use Rattle.word_port.specs.declared.Step.{Step}
use Rattle.word_port.specs.declared.Side.TheVariants.{Pool}
use Rattle.word_port.specs.Requests.{step_of, load_of, swap_of, cas_of}
use Rattle.body_vm.specs.declared.Action.TheVariants.{Ocall}
use Rattle.switchless.specs.Counts.{Completed}
use Rattle.bridge_program.specs.Tables.{bridges_of}
use Rattle.call_machine.specs.declared.Machine.{Machine}

-- `public void f(void) transition_using_threads;`
abbrev pub marked_function : Function
marked_function = record {
  name = codes "f";
  is_public = true;
  switchless = true;
  ret = None;
  params = [];
  allow = [];
  frame_size = 0;
}

-- one such ECALL and one such OCALL
abbrev pub marked_interface : Interface
marked_interface = record { ecalls = marked_function ∷ []; ocalls = marked_function ∷ [] }

-- the ECALL, whose body makes the OCALL; a slot for each pool, and workers; no host memory. Word 0 is the slot
-- for ECALLs, word 1 that for OCALLs, and word 2 ends the workers
abbrev pub pooled_machine : Machine
pooled_machine = record {
  interface = marked_interface;
  bridges = bridges_of marked_interface;
  script = record {
    settings = record {
      host = 0;
      stack = 0;
      arena = 16;
      cells = 0;
      retries = 1;
      tworkers = 1;
      uworkers = 1;
      slots = 1;
    };
    words = 0 ∷ 0 ∷ 1 ∷ [];
    races = [];
    bodies = record { actions = Ocall 0 1 0 [] ∷ [] } ∷ [];
    handlers = [];
    threads = [];
    racers = [];
  };
}

-- the host thread offers the ECALL, sees it done, and takes it
abbrev pub calling : List Step
calling = step_of (cas_of Pool 0 0 1) 0 ∷ step_of (load_of Pool 0) 3 ∷ step_of (swap_of Pool 0 0) 3 ∷ []

-- a worker accepts it; its body offers the OCALL, sees it done, and takes it; then the ECALL is left done
abbrev pub serving : List Step
serving = step_of (load_of Pool 0) 1 ∷ step_of (cas_of Pool 0 1 2) 1 ∷ step_of (cas_of Pool 1 0 1) 0
    ∷ step_of (load_of Pool 1) 3 ∷ step_of (swap_of Pool 1 0) 3 ∷ step_of (swap_of Pool 0 3) 2
    ∷ step_of (load_of Pool 2) 1 ∷ []

-- another worker accepts the OCALL, and leaves it done
abbrev pub handling : List Step
handling = step_of (load_of Pool 1) 1 ∷ step_of (cas_of Pool 1 1 2) 1 ∷ step_of (swap_of Pool 1 3) 2
    ∷ step_of (load_of Pool 2) 1 ∷ []

-- one order of these steps
abbrev pub all_steps : List Step
all_steps = step_of (cas_of Pool 0 0 1) 0 ∷ step_of (load_of Pool 0) 1 ∷ step_of (cas_of Pool 0 1 2) 1
    ∷ step_of (cas_of Pool 1 0 1) 0 ∷ step_of (load_of Pool 1) 1 ∷ step_of (cas_of Pool 1 1 2) 1
    ∷ step_of (swap_of Pool 1 3) 2 ∷ step_of (load_of Pool 1) 3 ∷ step_of (swap_of Pool 1 0) 3
    ∷ step_of (swap_of Pool 0 3) 2 ∷ step_of (load_of Pool 0) 3 ∷ step_of (swap_of Pool 0 0) 3
    ∷ step_of (load_of Pool 2) 1 ∷ step_of (load_of Pool 2) 1 ∷ []

-- each of the two calls
abbrev pub the_call : Completed
the_call = record { ordinal = 0; frame = 0; status = 0 }
