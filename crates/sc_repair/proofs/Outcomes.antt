-- What follows from how an act ended.
use Rattle.std.proofs.Common.{OnErr, OnOk, Result, Ok, Err}

-- what follows from two facts after no error, and from two after an error
pub on_ok-both : {T E A B P : Type 0} (r : Result T E) → OnOk r A → OnOk r B → (A → B → P) → OnOk r P
on_ok-both (Ok x) a b then = then a b
on_ok-both (Err e) a b then = tt

pub on_err-both : {T E A B P : Type 0} (r : Result T E) → OnErr r A → OnErr r B → (A → B → P) → OnErr r P
on_err-both (Ok x) a b then = tt
on_err-both (Err e) a b then = then a b

-- what holds after no error and after one holds either way
pub either-way : {T E P : Type 0} (r : Result T E) → OnOk r P → OnErr r P → P
either-way (Ok x) holds other = holds
either-way (Err e) other holds = holds
