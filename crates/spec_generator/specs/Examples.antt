-- Generated texts, written out.
use Rattle.std.specs.Prelude.{◌≡◌, ◌++◌, codes}
use Rattle.spec_generator.specs.Scripts.{script_text}
use Rattle.spec_generator.specs.Specifications.{specification_text}

-- the specifications of one, three and four cells, the script of the greatest seed for one cell, and that of the seed 1 for three
pub record AreAsWritten : Type 0 where
  pub one : specification_text 1 ≡
      codes "specification Gen [g0, g1] : noexit\nlibrary Boolean, NaturalNumber endlib\nbehaviour Cell [g0, g1]\n" ++
      codes "where process Cell [a, b] : noexit := a ?x:Nat; b !x; Cell [a, b] endproc\nendspec\n"
  pub three : specification_text 3 ≡
      codes "specification Gen [g0, g3] : noexit\nlibrary Boolean, NaturalNumber endlib\n" ++
      codes "behaviour hide g1, g2 in (Cell [g0, g1] |[g1]| (Cell [g1, g2] |[g2]| Cell [g2, g3]))\n" ++
      codes "where process Cell [a, b] : noexit := a ?x:Nat; b !x; Cell [a, b] endproc\nendspec\n"
  pub four : specification_text 4 ≡
      codes "specification Gen [g0, g4] : noexit\nlibrary Boolean, NaturalNumber endlib\n" ++
      codes "behaviour hide g1, g2, g3 in (Cell [g0, g1] |[g1]| (Cell [g1, g2] |[g2]| (Cell [g2, g3] |[g3]| Cell [g3, g4])))\n" ++
      codes "where process Cell [a, b] : noexit := a ?x:Nat; b !x; Cell [a, b] endproc\nendspec\n"
  pub script_one : script_text 4294967295 1 ≡ codes "1: g0 !Succ(0)\n1: g1 ?Nat\n"
  pub script_three : script_text 1 3 ≡
      codes "1: g0 !Succ(Succ(0))\n1: g3 ?Nat\n1: g0 !Succ(Succ(0))\n1: g3 ?Nat\n1: g0 !Succ(0)\n1: g3 ?Nat\n"
