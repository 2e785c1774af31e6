mod Signs
mod United
mod Priming
