-- What is told of a failure.
use Rattle.std.specs.Prelude.{ℕ, List, codes}
use Rattle.stdio.specs.declared.Failure.{Failure}
use Rattle.stdio.specs.declared.Failure.TheVariants.{Input, Output}

abbrev pub told : Failure → List ℕ
told Input = codes "standard input cannot be read"
told Output = codes "standard output cannot be written"
