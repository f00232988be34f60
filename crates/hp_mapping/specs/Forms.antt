-- The two forms of a map's places, and of its marks.
use Rattle.std.specs.Prelude.{ℕ, List}
use Rattle.hp_model.specs.declared.place.Place.{Place}
use Rattle.hp_mapping.specs.declared.row.Form.{Form}
use Rattle.hp_mapping.specs.declared.marks.Form.{Form as MarksForm}
use Rattle.hp_mapping.specs.declared.marks.Form.TheVariants.{Few, Many}
use Rattle.hp_mapping.specs.declared.row.Form.TheVariants.{Dense, Sparse}

abbrev pub places_of : Form → List (Place ℕ)
places_of (Dense places) = places
places_of (Sparse places) = places.value

abbrev pub words_of : MarksForm → List ℕ
words_of (Few words) = words
words_of (Many words) = words.value
