use Rattle.log_states.proofs.clients.+new_clients.Given as goal

abbrev pub decreases-new_clients : goal.decreases-new_clients
decreases-new_clients l = l.count
