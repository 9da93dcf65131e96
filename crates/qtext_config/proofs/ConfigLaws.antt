-- Reading the lists of a configuration.
use Rattle.std.proofs.Common.{◌≡◌, List, [], ◌∷◌, map, Result, refl, ap}
use Rattle.toml.specs.declared.value.Value.{Value}
use Rattle.toml.specs.Data.{Data}
use Rattle.toml.specs.View.{items_view, view}
use Rattle.qtext_config.specs.declared.config_fault.ConfigFault.{ConfigFault}
use Rattle.qtext.specs.Reading.{each_of}
use Rattle.qtext_config.specs.ConfigFaults.{Cause, EndsFor}
use Rattle.qtext_config.specs.ConfigFields.{values_at}
use Rattle.qtext.proofs.Loops.{ends, with_front}

-- the values of an array's items are its elements' views
pub values_of-items_view : (vs : List Value) → values_at (items_view vs) ≡ map view vs
values_of-items_view [] = refl
values_of-items_view (v ∷ vs) = let also : List Data → List Data = λ ds. view v ∷ ds in ap also (values_of-items_view vs)

-- the fault of one value is the fault of them all
pub fails : {A B : Type 0} (read : A → Result B Cause) (front : List B) (x : A) (xs rest : List A) (fault : ConfigFault)
    (total : Result (List B) Cause) → EndsFor fault (read x) → rest ≡ x ∷ xs → with_front front (each_of read rest) ≡ total
    → EndsFor fault total
fails read front x xs rest fault total h cut so_far cause tells = ends read front x xs rest cause total (h cause tells) cut so_far
