-- That what files hold decides what is told of a run.
use Rattle.std.specs.Prelude.{ℕ, ◌≡◌, List, Some}
use Rattle.sgx_base.specs.Stores.{Store, FilesState}
use Rattle.word_port.specs.declared.RunFull.{RunFull}
use Rattle.callrun.specs.Endings.{Names, IsDone, IsCut}
use Rattle.callrun.specs.Told.{Telling}

-- the same is told of the run of files that hold the same
abbrev pub OneTextIsTold : Type 0
OneTextIsTold = (telling : Telling) (n : Names) (store : Store) (files other : FilesState) (text another : List ℕ)
    → files.contents ≡ Some store → other.contents ≡ Some store → IsDone telling files n text → IsDone telling other n another → text ≡ another

-- no limit cuts the run of files that hold what others hold whose run is done
abbrev pub NoneIsDoneAndCut : Type 0
NoneIsDoneAndCut = (telling : Telling) (n : Names) (store : Store) (files other : FilesState) (text : List ℕ) (limit : RunFull)
    → files.contents ≡ Some store → other.contents ≡ Some store → IsDone telling files n text → ¬ IsCut other n limit

-- one limit cuts the run of files that hold the same
abbrev pub OneLimitCuts : Type 0
OneLimitCuts = (n : Names) (store : Store) (files other : FilesState) (limit another : RunFull)
    → files.contents ≡ Some store → other.contents ≡ Some store → IsCut files n limit → IsCut other n another → limit ≡ another
