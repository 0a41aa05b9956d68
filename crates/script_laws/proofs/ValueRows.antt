-- Scripts without fault, and what they are read as.
use Rattle.std.specs.Prelude.{◌≡◌, true, false, List, [], ◌∷◌, ◌++◌, Some, Ok, codes}
use Rattle.std.proofs.Common.{refl}
use Rattle.hex.specs.Hex.{decode_pairs}
use Rattle.body_vm.specs.declared.Body.{Body}
use Rattle.body_vm.specs.declared.Action.{Action}
use Rattle.body_vm.specs.declared.Action.TheVariants as action
use Rattle.body_vm.specs.declared.Operand.TheVariants.{Number, Reg, Value}
use Rattle.body_vm.specs.declared.Pass.TheVariants.{Value as by_number, Bytes as by_block}
use Rattle.call_script.specs.declared.HostAct.{Call, Raw, Poke, Peek, Return, Reply, Repeat}
use Rattle.call_script.specs.declared.CallArg.TheVariants.{At, Null, Number as its_number, Bytes}
use Rattle.call_script.specs.declared.Place.TheVariants.{At as at_address, InFrame}
use Rattle.call_script.specs.Spelling.{words, lines}
use Rattle.call_script.specs.Block.{placed_lines}
use Rattle.call_script.specs.Meaning.{zeros, written}
use Rattle.call_script.specs.Reading.{script_of}
use Rattle.script_laws.proofs.RowInterfaces.{wide_interface}

abbrev body : List Action → Body
body actions = record { actions = actions }

-- temporaries, OCALLs, cells and a handler with places in its frame
one_ocall : script_of wide_interface false
    (codes "tworkers 2\ncell 3 7\ncell 3 8\nbody g {\nocall r0 r1 d(u, t, 5)\ntemp t 4\ntemp s 2\nskipz r0 1\n"
    ++ codes "ccas r2 3 a b\nput s 1 r0\nreturn r2\n}\nhandler o {\npoke frame+8 01020304\nstatus 5\n"
    ++ codes "call g(255, -1, #0102030405060708, @frame+8)\n}\nhandler w {\nreturn 9\n}\n") ≡ Ok (record {
      settings =
          record {
            host = 4096;
            stack = 1024;
            arena = 4096;
            cells = 16;
            retries = 100;
            tworkers = 0;
            uworkers = 0;
            slots = 4;
          };
      words = zeros 4096 ++ written (written (zeros 16) 3 (7 ∷ [])) 3 (8 ∷ []) ++ zeros 0 ++ 0 ∷ [];
      races = [];
      bodies = body [] ∷ body (
          action.Ocall 0 1 3 (by_number (Value 3) ∷ by_block (Some 0) ∷ by_number (Number 5) ∷ [])
          ∷ action.Temp 0 4 ∷ action.Temp 1 2 ∷ action.Skipz 0 1 ∷ action.Ccas 2 3 (Value 0) (Value 1)
          ∷ action.Put 1 (Number 1) (Reg 0) ∷ action.Return (Reg 2) ∷ []) ∷ body [] ∷ [];
      handlers =
          (Poke (InFrame 8) (1 ∷ 2 ∷ 3 ∷ 4 ∷ []) ∷ Reply 5
          ∷ Call 1 (its_number 255 ∷ its_number 0xffffffffffffffff ∷ Bytes (1 ∷ 2 ∷ 3 ∷ 4 ∷ 5 ∷ 6 ∷ 7 ∷ 8 ∷ [])
          ∷ At (InFrame 8) ∷ []) ∷ [])
          ∷ (Return 9 ∷ []) ∷ [] ∷ [] ∷ [];
      threads = [] ∷ [];
      racers = [];
    })
unfolding script_of placed_lines words lines decode_pairs
one_ocall = refl

-- threads, racers, nested repeats between other lines, and slots
many_threads : script_of wide_interface true
    (codes "host 65536\ntworkers 1\nslots 2\ncells 1\nraw 7 0x10\nrepeat 2 {\npoke 0x10000 01\nrepeat 3 {\ncall n()\n}\n"
    ++ codes "peek 0x10000 4\n}\nthread {\nrepeat 4 {\ncall n()\n}\n}\ncall f(null, 0)\nracer {\nrepeat 5 {\n"
    ++ codes "poke 0x10000 ff\n}\n}\nthread {\n}\n") ≡ Ok (record {
      settings =
          record {
            host = 65536;
            stack = 1024;
            arena = 4096;
            cells = 1;
            retries = 100;
            tworkers = 1;
            uworkers = 0;
            slots = 2;
          };
      words = zeros 65536 ++ zeros 1 ++ zeros 4 ++ 0 ∷ [];
      races = [];
      bodies = body [] ∷ body [] ∷ body [] ∷ [];
      handlers = [] ∷ [] ∷ [] ∷ [] ∷ [];
      threads =
          (Raw 7 0x10 ∷ Repeat 2 (Poke (at_address 0x10000) (1 ∷ []) ∷ Repeat 3 (Call 2 [] ∷ [])
          ∷ Peek (at_address 0x10000) 4 ∷ []) ∷ Call 0 (Null ∷ its_number 0 ∷ []) ∷ [])
          ∷ (Repeat 4 (Call 2 [] ∷ []) ∷ []) ∷ [] ∷ [];
      racers = (Repeat 5 (Poke (at_address 0x10000) (255 ∷ []) ∷ []) ∷ []) ∷ [];
    })
unfolding script_of placed_lines words lines decode_pairs
many_threads = refl
