use Rattle.candidate_count.proofs.places.+renamed_place.Given as goal

abbrev pub decreases-renamed_place : goal.decreases-renamed_place
decreases-renamed_place l = l.number
