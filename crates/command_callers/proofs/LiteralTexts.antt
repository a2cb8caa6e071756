-- Texts that are known when the program is written, and their records.
use Rattle.std.proofs.Common.{ℕ, List, [], ◌∷◌, refl}
use Rattle.std.specs.Prelude.{None, codes}
use Rattle.csv.proofs.OnLiterals.{csv_on_literals}
use Rattle.csv.specs.Reading.{Reached}
use Rattle.csv.specs.declared.parser.State.TheVariants as st
use Rattle.keyed_text.specs.Texts.{AreRows}

-- the cells of records
abbrev pub id_a : List (List ℕ)
id_a = codes "id" ∷ codes "a" ∷ []

abbrev pub id_b : List (List ℕ)
id_b = codes "id" ∷ codes "b" ∷ []

abbrev pub id_b_a : List (List ℕ)
id_b_a = codes "id" ∷ codes "b" ∷ codes "a" ∷ []

abbrev pub one_x : List (List ℕ)
one_x = codes "1" ∷ codes "x" ∷ []

abbrev pub one_y : List (List ℕ)
one_y = codes "1" ∷ codes "y" ∷ []

abbrev pub one_z : List (List ℕ)
one_z = codes "1" ∷ codes "z" ∷ []

abbrev pub two_y : List (List ℕ)
two_y = codes "2" ∷ codes "y" ∷ []

abbrev pub two_z : List (List ℕ)
two_z = codes "2" ∷ codes "z" ∷ []

abbrev pub three_w : List (List ℕ)
three_w = codes "3" ∷ codes "w" ∷ []

abbrev pub one__x : List (List ℕ)
one__x = codes "1" ∷ codes "" ∷ codes "x" ∷ []

abbrev pub two_z_y : List (List ℕ)
two_z_y = codes "2" ∷ codes "z" ∷ codes "y" ∷ []

pub with_x : AreRows 44 None (codes "id,a\n1,x\n") (id_a ∷ one_x ∷ [])
unfolding csv_on_literals Reached
with_x = (st.StartRecord, [], (_, refl, refl, (_, refl, refl, (refl, refl))), refl)

pub with_semicolons : AreRows 59 None (codes "id;a\n1;x\n") (id_a ∷ one_x ∷ [])
unfolding csv_on_literals Reached
with_semicolons = (st.StartRecord, [], (_, refl, refl, (_, refl, refl, (refl, refl))), refl)

pub with_y : AreRows 44 None (codes "id,a\n1,y\n") (id_a ∷ one_y ∷ [])
unfolding csv_on_literals Reached
with_y = (st.StartRecord, [], (_, refl, refl, (_, refl, refl, (refl, refl))), refl)

-- the same after a byte order mark, with each cell in quotes and CR LF after each row
pub fully_with_y : AreRows 44 None (239 ∷ 187 ∷ 191 ∷ codes "\"id\",\"a\"\r\n\"1\",\"y\"\r\n") (id_a ∷ one_y ∷ [])
unfolding csv_on_literals Reached
fully_with_y = (st.AfterCr, 10 ∷ [], (_, refl, refl, (_, refl, refl, (refl, refl))), refl)

pub with_z : AreRows 44 None (codes "id,a\n1,z\n") (id_a ∷ one_z ∷ [])
unfolding csv_on_literals Reached
with_z = (st.StartRecord, [], (_, refl, refl, (_, refl, refl, (refl, refl))), refl)

pub with_x_and_z : AreRows 44 None (codes "id,a\n1,x\n2,z\n") (id_a ∷ one_x ∷ two_z ∷ [])
unfolding csv_on_literals Reached
with_x_and_z = (st.StartRecord, [], (_, refl, refl, (_, refl, refl, (_, refl, refl, (refl, refl)))), refl)

pub with_x_and_y : AreRows 44 None (codes "id,a\n1,x\n2,y\n") (id_a ∷ one_x ∷ two_y ∷ [])
unfolding csv_on_literals Reached
with_x_and_y = (st.StartRecord, [], (_, refl, refl, (_, refl, refl, (_, refl, refl, (refl, refl)))), refl)

pub with_y_and_z : AreRows 44 None (codes "id,a\n1,y\n2,z\n") (id_a ∷ one_y ∷ two_z ∷ [])
unfolding csv_on_literals Reached
with_y_and_z = (st.StartRecord, [], (_, refl, refl, (_, refl, refl, (_, refl, refl, (refl, refl)))), refl)

pub with_x_twice : AreRows 44 None (codes "id,a\n1,x\n1,y\n") (id_a ∷ one_x ∷ one_y ∷ [])
unfolding csv_on_literals Reached
with_x_twice = (st.StartRecord, [], (_, refl, refl, (_, refl, refl, (_, refl, refl, (refl, refl)))), refl)

pub with_y_then_x : AreRows 44 None (codes "id,a\n2,y\n1,x\n") (id_a ∷ two_y ∷ one_x ∷ [])
unfolding csv_on_literals Reached
with_y_then_x = (st.StartRecord, [], (_, refl, refl, (_, refl, refl, (_, refl, refl, (refl, refl)))), refl)

pub with_z_and_w : AreRows 44 None (codes "id,b\n2,z\n3,w\n") (id_b ∷ two_z ∷ three_w ∷ [])
unfolding csv_on_literals Reached
with_z_and_w = (st.StartRecord, [], (_, refl, refl, (_, refl, refl, (_, refl, refl, (refl, refl)))), refl)

pub with_column : AreRows 44 None (codes "id,b,a\n2,z,y\n1,,x\n") (id_b_a ∷ two_z_y ∷ one__x ∷ [])
unfolding csv_on_literals Reached
with_column = (st.StartRecord, [], (_, refl, refl, (_, refl, refl, (_, refl, refl, (refl, refl)))), refl)

abbrev pub change_id_a : List (List ℕ)
change_id_a = codes "change" ∷ codes "id" ∷ codes "a" ∷ []

abbrev pub minus_two_y : List (List ℕ)
minus_two_y = codes "-" ∷ codes "2" ∷ codes "y" ∷ []

pub without_y : AreRows 44 None (codes "change,id,a\n-,2,y\n") (change_id_a ∷ minus_two_y ∷ [])
unfolding csv_on_literals Reached
without_y = (st.StartRecord, [], (_, refl, refl, (_, refl, refl, (refl, refl))), refl)

abbrev pub minus_one_x : List (List ℕ)
minus_one_x = codes "-" ∷ codes "1" ∷ codes "x" ∷ []

abbrev pub minus_one_z : List (List ℕ)
minus_one_z = codes "-" ∷ codes "1" ∷ codes "z" ∷ []

abbrev pub plus_one_y : List (List ℕ)
plus_one_y = codes "+" ∷ codes "1" ∷ codes "y" ∷ []

pub from_x_to_y : AreRows 44 None (codes "change,id,a\n-,1,x\n+,1,y\n") (change_id_a ∷ minus_one_x ∷ plus_one_y ∷ [])
unfolding csv_on_literals Reached
from_x_to_y = (st.StartRecord, [], (_, refl, refl, (_, refl, refl, (_, refl, refl, (refl, refl)))), refl)

-- changes in which a column goes, and a table with no cell there in a row
abbrev pub change_id_without_a : List (List ℕ)
change_id_without_a = codes "change" ∷ codes "id" ∷ codes "-a" ∷ []

pub without_column : AreRows 44 None (codes "change,id,-a\n-,1,x\n") (change_id_without_a ∷ minus_one_x ∷ [])
unfolding csv_on_literals Reached
without_column = (st.StartRecord, [], (_, refl, refl, (_, refl, refl, (refl, refl))), refl)

abbrev pub two_blank : List (List ℕ)
two_blank = codes "2" ∷ codes "" ∷ []

pub with_x_and_blank : AreRows 44 None (codes "id,a\n1,x\n2,\n") (id_a ∷ one_x ∷ two_blank ∷ [])
unfolding csv_on_literals Reached
with_x_and_blank = (st.StartRecord, [], (_, refl, refl, (_, refl, refl, (_, refl, refl, (refl, refl)))), refl)

pub from_z_to_y : AreRows 44 None (codes "change,id,a\n-,1,z\n+,1,y\n") (change_id_a ∷ minus_one_z ∷ plus_one_y ∷ [])
unfolding csv_on_literals Reached
from_z_to_y = (st.StartRecord, [], (_, refl, refl, (_, refl, refl, (_, refl, refl, (refl, refl)))), refl)

abbrev pub id : List (List ℕ)
id = codes "id" ∷ []

abbrev pub one : List (List ℕ)
one = codes "1" ∷ []

abbrev pub two : List (List ℕ)
two = codes "2" ∷ []

pub ids : AreRows 44 None (codes "id\n1\n2\n") (id ∷ one ∷ two ∷ [])
unfolding csv_on_literals Reached
ids = (st.StartRecord, [], (_, refl, refl, (_, refl, refl, (_, refl, refl, (refl, refl)))), refl)

abbrev pub change_id : List (List ℕ)
change_id = codes "change" ∷ codes "id" ∷ []

abbrev pub minus_two : List (List ℕ)
minus_two = codes "-" ∷ codes "2" ∷ []

abbrev pub plus_three : List (List ℕ)
plus_three = codes "+" ∷ codes "3" ∷ []

pub from_two_to_three : AreRows 44 None (codes "change,id\n-,2\n+,3\n") (change_id ∷ minus_two ∷ plus_three ∷ [])
unfolding csv_on_literals Reached
from_two_to_three = (st.StartRecord, [], (_, refl, refl, (_, refl, refl, (_, refl, refl, (refl, refl)))), refl)

abbrev pub id_a_b : List (List ℕ)
id_a_b = codes "id" ∷ codes "a" ∷ codes "b" ∷ []

abbrev pub one_x_y : List (List ℕ)
one_x_y = codes "1" ∷ codes "x" ∷ codes "y" ∷ []

abbrev pub one_z_y : List (List ℕ)
one_z_y = codes "1" ∷ codes "z" ∷ codes "y" ∷ []

abbrev pub one_x_w : List (List ℕ)
one_x_w = codes "1" ∷ codes "x" ∷ codes "w" ∷ []

abbrev pub one_v_w : List (List ℕ)
one_v_w = codes "1" ∷ codes "v" ∷ codes "w" ∷ []

abbrev pub one__w : List (List ℕ)
one__w = codes "1" ∷ codes "" ∷ codes "w" ∷ []

pub with__w : AreRows 44 None (codes "id,a,b\n1,,w\n") (id_a_b ∷ one__w ∷ [])
unfolding csv_on_literals Reached
with__w = (st.StartRecord, [], (_, refl, refl, (_, refl, refl, (refl, refl))), refl)

pub with_x_y : AreRows 44 None (codes "id,a,b\n1,x,y\n") (id_a_b ∷ one_x_y ∷ [])
unfolding csv_on_literals Reached
with_x_y = (st.StartRecord, [], (_, refl, refl, (_, refl, refl, (refl, refl))), refl)

pub with_z_y : AreRows 44 None (codes "id,a,b\n1,z,y\n") (id_a_b ∷ one_z_y ∷ [])
unfolding csv_on_literals Reached
with_z_y = (st.StartRecord, [], (_, refl, refl, (_, refl, refl, (refl, refl))), refl)

pub with_x_w : AreRows 44 None (codes "id,a,b\n1,x,w\n") (id_a_b ∷ one_x_w ∷ [])
unfolding csv_on_literals Reached
with_x_w = (st.StartRecord, [], (_, refl, refl, (_, refl, refl, (refl, refl))), refl)

pub with_v_w : AreRows 44 None (codes "id,a,b\n1,v,w\n") (id_a_b ∷ one_v_w ∷ [])
unfolding csv_on_literals Reached
with_v_w = (st.StartRecord, [], (_, refl, refl, (_, refl, refl, (refl, refl))), refl)

-- and those of texts with no header
abbrev pub first_second : List (List ℕ)
first_second = codes "1" ∷ codes "2" ∷ []

pub bare_x : AreRows 44 None (codes "1,x\n") (one_x ∷ [])
unfolding csv_on_literals Reached
bare_x = (st.StartRecord, [], (_, refl, refl, (refl, refl)), refl)

pub bare_y : AreRows 44 None (codes "1,y\n") (one_y ∷ [])
unfolding csv_on_literals Reached
bare_y = (st.StartRecord, [], (_, refl, refl, (refl, refl)), refl)

-- two tables of which no row is the same, the second one in no order, and the changes from one to the other
abbrev pub plus_one_z : List (List ℕ)
plus_one_z = codes "+" ∷ codes "1" ∷ codes "z" ∷ []

abbrev pub plus_three_w : List (List ℕ)
plus_three_w = codes "+" ∷ codes "3" ∷ codes "w" ∷ []

pub with_w_then_z : AreRows 44 None (codes "id,a\n3,w\n1,z\n") (id_a ∷ three_w ∷ one_z ∷ [])
unfolding csv_on_literals Reached
with_w_then_z = (st.StartRecord, [], (_, refl, refl, (_, refl, refl, (_, refl, refl, (refl, refl)))), refl)

pub from_xy_to_zw : AreRows 44 None (codes "change,id,a\n-,1,x\n+,1,z\n-,2,y\n+,3,w\n") (change_id_a ∷ minus_one_x ∷ plus_one_z ∷ minus_two_y ∷ plus_three_w ∷ [])
unfolding csv_on_literals Reached
from_xy_to_zw = (st.StartRecord, [], (_, refl, refl, (_, refl, refl, (_, refl, refl, (_, refl, refl, (_, refl, refl, (refl, refl)))))), refl)

-- and two versions of the first one
pub with_z_and_y : AreRows 44 None (codes "id,a\n1,z\n2,y\n") (id_a ∷ one_z ∷ two_y ∷ [])
unfolding csv_on_literals Reached
with_z_and_y = (st.StartRecord, [], (_, refl, refl, (_, refl, refl, (_, refl, refl, (refl, refl)))), refl)

pub with_x_and_w : AreRows 44 None (codes "id,a\n1,x\n3,w\n") (id_a ∷ one_x ∷ three_w ∷ [])
unfolding csv_on_literals Reached
with_x_and_w = (st.StartRecord, [], (_, refl, refl, (_, refl, refl, (_, refl, refl, (refl, refl)))), refl)
